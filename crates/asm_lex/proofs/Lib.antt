mod ByLines
mod FirstBytes
mod Gaps
mod Gathered
mod Longest
pub mod Moved
pub mod NumberAt
mod OneLine
mod Runs
pub mod Steps
pub mod TokenAt
pub mod WordAt
