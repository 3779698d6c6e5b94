pub mod Declaration
pub mod Data
pub mod Formed
pub mod Printing
pub use Declaration.*
pub use Data.*
unfoldable pub use Formed.*
pub use Printing.*
