pub mod Edits
pub mod Original
pub mod Listing
pub mod Drawn
pub use Edits.*
pub use Original.*
pub use Listing.*
pub use Drawn.*
