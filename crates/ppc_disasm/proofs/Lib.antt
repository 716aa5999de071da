pub mod Fitting
pub mod LayoutsFit
pub mod Widths
