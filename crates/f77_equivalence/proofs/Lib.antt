pub mod Common
pub mod Moving
pub mod Starting
pub mod Ending
pub mod InPlace
