pub mod Obeys
pub mod Prints
