pub mod AnsweringLemmas
pub mod MovingLemmas
pub mod StoringLemmas
pub mod MovesLemmas
pub mod AccessesLemmas
