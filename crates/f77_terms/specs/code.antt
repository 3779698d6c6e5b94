pub mod Ranges
pub use Ranges.*
