pub mod AnswerLemmas
pub mod ChainLemmas
pub mod ListLemmas
pub mod WindowLemmas
