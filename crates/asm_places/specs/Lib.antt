pub mod Adding
pub mod FirstPass
pub mod Keeping
pub mod Lines
pub mod Names
pub mod Places
pub mod Ranges
pub mod Sums
