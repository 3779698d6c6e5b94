pub mod Reading
pub mod Classification
pub mod TextLimits
pub mod Parsing
pub mod Printing
pub mod code
pub use Reading.*
unfoldable pub use Classification.*
pub use TextLimits.*
pub use Parsing.*
pub use Printing.*
