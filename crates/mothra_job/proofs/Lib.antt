pub mod Common
pub mod EachValue
pub mod Suites
pub mod Entries
pub mod FewTests
