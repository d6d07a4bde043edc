pub mod Update
pub mod Machine
pub mod Positions
pub mod Invariant
pub mod Meaning
pub mod Safety
pub mod Example
