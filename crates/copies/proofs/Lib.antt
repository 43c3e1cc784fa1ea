pub mod CommandView
pub mod ReplyView
pub mod Counts
pub mod Placed
