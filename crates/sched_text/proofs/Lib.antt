pub mod Turns
pub mod Below
pub mod OneThread
