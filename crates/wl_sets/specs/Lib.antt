pub mod FreeTree
pub mod SlotSets
