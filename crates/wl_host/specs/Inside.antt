-- What the functions inside promise each other; no public clause names these.
pub mod Actions
pub mod Lending
pub mod Seats
pub mod Slots
