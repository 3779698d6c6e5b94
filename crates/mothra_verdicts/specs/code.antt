pub mod Running
pub mod Equivalents
pub use Running.*
pub use Equivalents.*
