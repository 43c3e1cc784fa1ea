pub mod ReadLaws
pub mod Facts
pub mod Built
pub mod AsRead
pub mod ReadBack
