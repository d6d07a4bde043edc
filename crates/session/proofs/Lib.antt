pub mod Orders
pub mod Printed
pub mod Told
pub mod Shown
