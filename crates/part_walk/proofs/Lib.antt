pub mod AddedLemmas
pub mod GivenWalks
pub mod Joins
pub mod PartTakes
pub mod RealAddress
