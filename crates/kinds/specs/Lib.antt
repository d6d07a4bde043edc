pub mod Views
pub mod Addresses
pub mod Walks
pub mod Plain
pub mod Plans
pub mod Runs
pub mod Points
