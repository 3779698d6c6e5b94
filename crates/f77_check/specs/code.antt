pub mod Kept
pub mod Boxed
pub mod Lookup
pub mod Ready
pub mod Initial
pub mod Shapes
pub mod Patching
pub use Kept.*
unfoldable pub use Boxed.*
pub use Lookup.*
pub use Ready.*
pub use Initial.*
pub use Shapes.*
pub use Patching.*
