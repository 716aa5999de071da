pub mod Adds
pub mod Causes
pub mod Ranges
pub mod Targets
