pub mod PlaceLemmas
pub mod NumberLemmas
pub mod FitsLemmas
pub mod WordLemmas
