-- The laws of runs, by topic.
pub mod Moves
pub mod Ids
pub mod Log
pub mod Noted
pub mod Announced
pub mod Cut
pub mod Outcome
pub mod Killed
pub mod Alone
