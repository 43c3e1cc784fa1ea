pub mod Cases
pub mod Facts
pub mod JudgeView
pub mod JudgeLaws
pub mod Unread
pub mod Written
