-- Trees of words.
pub mod Trees
-- Sets of slots.
pub mod Lists
mod LowestBit
mod SlotSets
