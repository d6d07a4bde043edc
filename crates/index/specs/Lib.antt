pub mod Index
pub mod Texts
pub mod Opened
pub mod Apart
pub mod Left
