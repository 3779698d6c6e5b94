pub mod Changed
pub mod Registers
pub mod Visits
pub mod code
pub use Changed.*
pub use Registers.*
pub use Visits.*
