pub mod BitLemmas
pub mod ShiftLemmas
pub mod CountLemmas
pub mod PartLemmas
pub mod LawLemmas
