pub mod Answering
pub mod Exits
pub mod Gathering
pub mod Informing
pub mod Outgoing
pub mod Shelf
pub mod Standard
pub mod Views
