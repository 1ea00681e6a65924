mod FirstAnswer
mod FirstSync
mod HexWords
pub mod Feeds
mod InputLines
mod Lines
mod Making
pub mod OneCommand
mod NoteLines
pub mod Numbers
mod OneOutcome
mod Others
mod Places
mod Rows
pub mod SameRecords
pub mod RunLines
mod Sharing
mod Slots
