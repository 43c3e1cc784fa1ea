pub mod Arguments
pub mod Places
