pub mod Counts
pub mod Objects
pub mod Refusals
pub mod Slots
