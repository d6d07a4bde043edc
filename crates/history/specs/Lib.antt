pub mod Update
pub mod Events
pub mod PlainLists
pub mod Promises
