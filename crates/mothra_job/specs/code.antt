pub mod Equivalent
pub use Equivalent.*
