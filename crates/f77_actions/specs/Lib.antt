pub mod Operators
pub mod Number
pub mod Value
pub mod Encoded
pub use Operators.*
pub use Number.*
pub use Value.*
pub use Encoded.*
