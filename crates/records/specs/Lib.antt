pub mod Looks
pub mod Tables
