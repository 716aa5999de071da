pub mod Fields
pub mod Masks
pub mod CrLogic
pub mod Compare
pub mod Trap
pub mod Select
pub mod Branch
pub mod Laws
