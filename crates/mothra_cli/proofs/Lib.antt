pub mod Common
pub mod Meanings
mod Commands
pub mod Getters
pub mod OptionRows
pub mod Accepted
mod CodeLists
