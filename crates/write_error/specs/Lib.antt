pub mod WriteError
pub mod Edges
