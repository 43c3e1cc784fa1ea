pub mod Stages
pub mod Marks
pub mod Recording
