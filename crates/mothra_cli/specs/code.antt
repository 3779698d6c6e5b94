pub mod Request
pub use Request.*
