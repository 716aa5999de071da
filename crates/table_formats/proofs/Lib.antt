pub mod Splits
pub mod ReadBack
pub mod WrittenBack
