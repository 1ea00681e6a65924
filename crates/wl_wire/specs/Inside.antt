-- What the functions inside promise each other; no public clause names these.
pub mod Cursor
pub mod Buffer
pub mod TableCheck
pub mod FixedInterfaces
