pub mod Op
pub mod Ticket
pub mod code
