pub mod Edits
pub mod Copies
pub mod Listing
pub mod Plan
pub mod Tickets
pub mod Mutants
pub mod Made
pub mod code
pub use Edits.*
pub use Copies.*
pub use Listing.*
unfoldable pub use Plan.*
pub use Tickets.*
pub use Mutants.*
pub use Made.*
