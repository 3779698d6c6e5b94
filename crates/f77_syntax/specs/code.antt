pub mod Reading
pub mod View
pub mod Joined
pub mod Names
pub mod Declaration
pub mod Data
pub mod StatementView
pub mod Assignment
pub mod Label
pub mod Goto
pub mod Condition
pub mod Subroutine
pub mod DoLoop
pub mod Statement
pub mod Parsing
unfoldable pub use Reading.*
pub use View.*
unfoldable pub use Joined.*
unfoldable pub use Names.*
unfoldable pub use Declaration.*
unfoldable pub use Data.*
pub use StatementView.*
unfoldable pub use Assignment.*
unfoldable pub use Label.*
unfoldable pub use Goto.*
unfoldable pub use Condition.*
unfoldable pub use Subroutine.*
unfoldable pub use DoLoop.*
unfoldable pub use Statement.*
pub use Parsing.*
