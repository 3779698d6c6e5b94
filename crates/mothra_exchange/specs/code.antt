pub mod Calls
pub mod Exchange
pub mod Rule
pub mod View
pub use Calls.*
pub use Exchange.*
pub use Rule.*
pub use View.*
