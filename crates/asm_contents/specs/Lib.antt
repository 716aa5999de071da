pub mod Adding
pub mod Contents
pub mod Values
