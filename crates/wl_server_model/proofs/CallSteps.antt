-- How a call is a step of the server.
pub mod Moved
pub mod Numbering
pub mod Slots
pub mod Lent
pub mod OverScripts
pub mod Collecting
pub mod Feeling
pub mod Visiting
