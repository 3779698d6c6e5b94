pub mod Card
pub mod Line
pub mod Read
pub mod Write
pub mod Law
pub mod SameCards
pub mod code
pub use Card.*
unfoldable pub use Line.*
unfoldable pub use Read.*
unfoldable pub use Write.*
pub use Law.*
pub use SameCards.*
