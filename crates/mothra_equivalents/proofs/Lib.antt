pub mod Common
pub mod Listed
