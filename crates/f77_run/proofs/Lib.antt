pub mod Common
mod Steps
mod Runs
mod Pairs
pub mod Misfits
mod Filled
mod Held
mod Framed
mod Readiness
mod Changing
mod Loaded
mod Shown
mod Kinded
mod Pushed
mod Advancing
mod Going
mod Entered
mod Reporting
mod SameReports
mod Ended
mod Ends
mod Starting
mod Finished
mod Alongside
mod Visited
mod Followed
