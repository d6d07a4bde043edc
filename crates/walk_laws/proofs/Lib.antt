pub mod Walking
pub mod OfStack
pub mod OfQueue
