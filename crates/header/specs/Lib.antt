pub mod Valid
pub mod Read
pub mod ReadBack
