pub mod State
pub mod Open
pub mod Fetch
pub mod Reply
