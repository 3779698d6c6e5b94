pub mod Common
mod CollectLists
mod CollectRows
mod CollectEntries
mod CollectMatrix
mod ReportOperators
mod ReportRows
mod ReportTexts
mod PassSteps
mod Looking
mod FeederSteps
mod FeederRounds
mod ClosedOperators
mod JoinedPasses
mod SharedOperators
mod TakenTickets
mod WorkerSteps
mod WorkerRows
mod DriveEnds
mod ReportEntries
mod CompleteRows
pub mod FirstItems
mod Crossings
mod RowLists
mod CountedOperators
