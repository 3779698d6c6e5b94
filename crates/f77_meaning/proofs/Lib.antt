pub mod Common
pub mod InRun
pub mod Asking
pub mod StateDefinitions
pub mod OneWay
mod Stepping
mod Rows
pub mod Numbered
mod Control
pub mod Soundness
pub mod NeverLost
pub mod Typing
mod Choices
pub mod Cells
mod Results
pub mod Spans
mod SameValue
mod Within
pub mod Stored
mod Turning
mod Looping
pub mod Simulation
pub mod Reaching
pub mod Endless
pub mod Unreached
mod Places
pub mod Dummies
pub mod Filling
mod Laying
pub mod Reading
pub mod Beginning
pub mod OneAnswer
pub mod Nested
mod Jumping
mod Branching
mod GoingOn
mod Active
mod StandsNested
pub mod Moving
pub mod PassesLeft
pub mod SlotKinds
mod ControlDefinitions
