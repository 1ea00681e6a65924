-- Killed clients leave, and notes are gathered.
pub mod Taken
pub mod Gathering
pub mod Ordering
pub mod Outgoing
pub mod Cleaning
pub mod Rooms
pub mod CleaningUp
pub mod Asking
pub mod Idle
pub mod TakingNotes
