pub mod Counted
pub mod DigitLaws
pub mod NumberLaws
pub mod OrderLaws
pub mod Wordings
