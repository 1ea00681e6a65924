-- What the functions inside promise each other; no public clause names these.
pub mod Lookup
pub mod Walks
pub mod Inserting
pub mod Gathering
pub mod NoteOrder
pub mod Leaving
pub mod Places
pub mod Cleanup
pub mod Performing
pub mod Dispatching
pub mod Naming
