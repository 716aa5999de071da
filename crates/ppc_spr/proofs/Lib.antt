pub mod BitTests
pub mod Bitwise
pub mod Puts
pub mod FixedBits
pub mod Profile
pub mod LawLemmas
