pub mod FlagLaws
pub mod Inverse
