-- The clients that were touched, and those for which nothing waits.
pub mod Kept
pub mod Flushed
pub mod Gathered
pub mod GatheredSlots
pub mod Counted
pub mod Leaving
