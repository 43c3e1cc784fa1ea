pub mod tape
pub mod recording
pub mod reading
pub mod Fold
pub mod Refusals
