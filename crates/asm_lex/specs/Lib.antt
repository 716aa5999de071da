pub mod Classes
pub mod Cursors
pub mod Fronts
pub mod Laws
pub mod Lexemes
pub mod Tokens
