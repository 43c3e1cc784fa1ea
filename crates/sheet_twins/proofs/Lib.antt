pub mod Inverse
