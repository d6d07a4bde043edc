pub mod Systems
pub mod Abstraction
pub mod Valid
pub mod Does
pub mod Theorems
pub mod Example
