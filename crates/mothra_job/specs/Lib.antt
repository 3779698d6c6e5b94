pub mod FirstFault
pub mod Suite
pub mod Equivalent
pub mod Job
pub mod code
pub use FirstFault.*
unfoldable pub use Suite.*
unfoldable pub use Equivalent.*
unfoldable pub use Job.*
