pub mod Lines
pub mod Packed
pub mod Answers
pub mod Pieces
pub mod Words
