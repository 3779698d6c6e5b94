pub mod Equivalents
pub use Equivalents.*
