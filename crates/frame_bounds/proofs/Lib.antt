pub mod SmallerLaws
