pub mod Prelude
pub mod Walk
pub mod Machines
pub mod Followed
pub mod Memory
pub mod Atoms
pub mod Sides
pub mod Visits
pub mod code
unfoldable pub use Walk.*
unfoldable pub use Machines.*
pub use Followed.*
pub use Memory.*
pub use Atoms.*
pub use Sides.*
pub use Visits.*
