pub mod Common
mod Asking
mod Longer
mod Rooms
mod Storable
mod Tests
