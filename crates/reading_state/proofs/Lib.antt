pub mod FetchView
pub mod ReplyView
pub mod Cases
pub mod Refusals
pub mod Ended
pub mod Unread
pub mod ListedReplies
