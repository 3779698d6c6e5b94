pub mod Running
pub mod Spans
pub mod Typed
pub use Running.*
pub use Spans.*
pub use Typed.*
