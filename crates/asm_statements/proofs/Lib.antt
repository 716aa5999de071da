pub mod Counts
pub mod Ends
pub mod Fronts
pub mod Joined
pub mod Names
pub mod Scanned
pub mod Stated
mod Terms
pub mod Texts
