pub mod Merging
pub mod LawLemmas
