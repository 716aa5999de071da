pub mod Decode
pub mod Find
pub mod Opcodes
pub mod Operands
