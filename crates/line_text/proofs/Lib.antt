mod Digits
pub mod Parts
