pub mod SenseLaws
pub mod CaseLaws
pub mod ListedCases
