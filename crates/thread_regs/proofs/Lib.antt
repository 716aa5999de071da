pub mod ResetLemmas
pub mod SoundLemmas
pub mod SpecialsLemmas
pub mod RegisterLaws
