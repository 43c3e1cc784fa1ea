pub mod Unfitting
