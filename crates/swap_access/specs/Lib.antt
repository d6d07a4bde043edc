pub mod Effects
pub mod Found
pub mod Accesses
pub mod Names
