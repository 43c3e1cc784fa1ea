pub mod Throughout
pub mod HeldCopies
pub mod View
pub mod Intact
pub mod CutLists
pub mod Untouched
pub mod InPart
