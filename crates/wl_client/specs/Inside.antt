-- What the functions inside promise each other; no public clause names these.
pub mod Sending
pub mod Conversion
pub mod ReadingLoop
pub mod EventInPlace
pub mod Freed
