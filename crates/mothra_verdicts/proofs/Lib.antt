pub mod Common
pub mod BenchTests
mod BenchEntries
mod BenchSets
mod BenchFaults
pub mod Kills
mod KillsInTurn
mod OutOfMemory
mod Items
pub mod Crossings
