pub mod Counts
pub mod Acceptable
