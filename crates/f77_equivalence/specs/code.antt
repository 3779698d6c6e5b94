pub mod StartSlots
pub use StartSlots.*
