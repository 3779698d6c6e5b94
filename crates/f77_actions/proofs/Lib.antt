pub mod Common
mod Powers
mod Ranges
pub mod Bounds
pub mod Faults
pub mod Sums
pub mod Operations
