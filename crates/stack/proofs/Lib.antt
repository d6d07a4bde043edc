pub mod Facts
pub mod Staying
pub mod Shown
