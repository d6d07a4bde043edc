pub mod Made
pub mod Alone
