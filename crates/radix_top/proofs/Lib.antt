pub mod Files
pub mod Refusals
pub mod RunsOf
pub mod LawsLemmas
pub mod ConsoleLemmas
pub mod CutWords
pub mod Done
