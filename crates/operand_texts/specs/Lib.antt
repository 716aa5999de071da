pub mod Operands
pub mod Marks
pub mod Mnemonics
