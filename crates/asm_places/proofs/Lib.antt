mod Adding
pub mod Grown
pub mod Named
pub mod Room
pub mod Split
pub mod Within
