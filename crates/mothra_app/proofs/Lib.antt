pub mod Common
pub mod Stages
pub mod Memory
mod Refusals
mod ListedLines
mod Answered
mod OneProgram
mod OneExecution
mod OneListing
mod FirstBreaks
mod EqualPlans
mod OneBench
mod OneReport
mod OneAnswer
mod Headline
mod NoFalseRefusal
