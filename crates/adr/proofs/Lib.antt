pub mod CallLaws
pub mod Unfitting
