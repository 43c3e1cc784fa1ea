pub mod Command
pub mod Senses
pub mod Listed
pub mod Exchange
pub mod Cases
