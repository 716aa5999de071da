pub mod Parts
pub mod Bitwise
pub mod Shifts
pub mod Rotates
pub mod Counts
pub mod Bytes
pub mod Logic
