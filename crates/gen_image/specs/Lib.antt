pub mod Draws
pub mod Code
pub mod Forms
pub mod Tables
pub mod Generated
pub mod Laws
