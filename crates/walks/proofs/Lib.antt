pub mod Counting
pub mod Copying
