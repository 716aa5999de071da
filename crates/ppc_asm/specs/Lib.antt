pub mod Filling
pub mod Images
pub mod Laws
