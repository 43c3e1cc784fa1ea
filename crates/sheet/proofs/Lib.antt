pub mod Columns
pub mod Lines
pub mod ColumnValues
pub mod Prints
pub mod Cases
pub mod Promises
