pub mod Prelude
pub mod Words
pub mod Others
pub mod Rendering
pub mod Room
pub mod Finding
pub mod Law
unfoldable pub use Words.*
pub use Others.*
pub use Rendering.*
pub use Room.*
pub use Finding.*
pub use Law.*
