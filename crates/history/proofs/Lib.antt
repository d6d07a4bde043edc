pub mod Update
pub mod Stands
pub mod Books
pub mod Changing
pub mod Agreeing
pub mod Ledger
pub mod Order
pub mod Carrying
