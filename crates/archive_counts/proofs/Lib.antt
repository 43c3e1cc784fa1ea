pub mod Between
pub mod Tallies
pub mod bound
pub mod run
