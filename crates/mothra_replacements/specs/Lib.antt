pub mod Pools
pub mod Replacements
pub use Pools.*
pub use Replacements.*
