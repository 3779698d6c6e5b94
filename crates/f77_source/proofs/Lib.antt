pub mod Common
mod Columns
mod Faults
mod Runs
mod Statements
mod Completeness
mod FirstFaults
mod Cuts
mod Outcomes
mod Pieces
mod LabelTexts
mod ReadBack
