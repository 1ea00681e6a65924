-- What the functions inside promise each other; no public clause names these.
pub mod PlaceList
pub mod WaitingBytes
pub mod ReaderLoops
pub mod HandFront
