pub mod AnswersLemmas
pub mod StoredLemmas
pub mod RowsLemmas
pub mod StatusLemmas
