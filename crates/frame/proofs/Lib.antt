pub mod Lists
pub mod Frames
pub mod AuxFields
pub mod HeaderFields
pub mod AsSent
pub mod ReadBack
pub mod FrameTypes
