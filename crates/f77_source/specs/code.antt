pub mod Card
pub mod Reader
pub use Card.*
unfoldable pub use Reader.*
