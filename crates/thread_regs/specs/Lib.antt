pub mod Registers
pub mod Lending
pub mod Soundness
pub mod Specials
pub mod Laws
