-- The objects that the messages of both sides make and end, which message stands at the front, and what a follower tells.
pub mod Sides
pub mod Objects
pub mod Fronts
pub mod Sent
pub mod Following
pub mod Runs
pub mod Inside
