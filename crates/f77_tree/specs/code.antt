pub mod Joined
pub mod Swapping
pub use Joined.*
pub use Swapping.*
