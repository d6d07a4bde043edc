pub mod FirstLine
pub mod Pairs
pub mod Back
pub mod Written
pub mod Fits
pub mod Whole
