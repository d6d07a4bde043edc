pub mod Ways
pub mod Steady
pub mod Held
pub mod Keeping
pub mod FromFacts
pub mod Owning
pub mod Distinct
pub mod Chains
