pub mod Index
pub mod Lies
pub mod Within
pub mod Opened
