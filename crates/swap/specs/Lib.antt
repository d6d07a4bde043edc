pub mod Ends
pub mod Beginnings
pub mod Marks
pub mod Results
pub mod Dispatch
