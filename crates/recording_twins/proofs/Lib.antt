pub mod MarkLaws
pub mod Inverse
