-- What the functions inside promise each other; no public clause names these.
pub mod Sending
