pub mod Fault
pub mod Watched
pub mod Input
pub mod Output
pub mod Command
pub mod Operators
pub mod Asking
pub mod Request
pub mod code
pub use Fault.*
pub use Watched.*
pub use Input.*
pub use Output.*
unfoldable pub use Command.*
pub use Operators.*
unfoldable pub use Asking.*
pub use Request.*
