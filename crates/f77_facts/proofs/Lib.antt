pub mod Common
pub mod Slots
pub mod Stored
