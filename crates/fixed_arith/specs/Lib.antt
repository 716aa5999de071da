pub mod Ranges
pub mod Outcomes
pub mod Sums
pub mod Products
pub mod Quotients
pub mod Arith
