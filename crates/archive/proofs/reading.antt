pub mod ListedReplies
