pub mod CodeLemmas
pub mod DrawLemmas
pub mod FormLemmas
pub mod LawLemmas
pub mod PageLemmas
pub mod TableLemmas
