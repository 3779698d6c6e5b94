pub mod Common
mod Arguments
mod StatementLabels
mod Readiness
mod Jumps
mod Sites
mod CheckedParts
mod SlotCounts
mod SlotTables
mod KeptNames
mod Cells
mod Giving
mod DataNames
mod SlotKinds
mod InitialValues
pub mod FirstExecutable
pub mod Operands
mod Items
mod Deepest
mod Chosen
mod Resolving
pub mod NoInitialValue
pub mod Carried
pub mod Changes
