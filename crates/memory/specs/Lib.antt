pub mod Places
pub mod Seen
pub mod Addresses
pub mod Reads
pub mod Meaning
pub mod Writes
pub mod Lent
