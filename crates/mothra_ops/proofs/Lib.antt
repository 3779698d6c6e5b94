pub mod Common
mod OrderedLists
mod Thinning
mod LongLists
mod Thinned
mod Cursor
mod Members
mod MakesMutant
mod Comings
mod Left
mod Made
mod NodeLists
mod Applied
mod Plans
mod Numbered
mod CandidateMakes
mod Shapes
mod MadeFits
mod MadeBy
pub mod Copied
pub mod TicketLists
