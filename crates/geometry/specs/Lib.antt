pub mod Pick
pub mod Refusal
pub mod Place
pub mod Cartridge
pub mod Wrap
