pub mod Plays
pub mod Laws
pub mod Words
