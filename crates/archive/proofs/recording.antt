pub mod Added
pub mod Named
pub mod ListedReplies
pub mod InFlight
