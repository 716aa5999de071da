pub mod Classes
pub mod Rows
pub mod Table
pub mod Fitting
pub mod Forms
pub mod Results
