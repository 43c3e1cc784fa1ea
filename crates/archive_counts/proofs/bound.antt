pub mod ElementCounts
pub mod HeaderCounts
pub mod Session
pub mod Answers
pub mod Replies
pub mod Calls
pub mod Lists
