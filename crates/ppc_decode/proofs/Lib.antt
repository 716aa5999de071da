mod Sums
mod Found
mod Parts
mod RoundTrip
pub mod Whole
