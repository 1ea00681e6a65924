-- ---- what a call does
pub mod ReadingEnds
pub mod Server
pub mod NoteOrder
pub mod Moves
pub mod PartStep
pub mod Steps
pub mod Runs
pub mod Backend
pub mod Lookups
pub mod Next
pub mod Posted
-- ---- laws of runs
pub mod Outcome
pub mod HandedIds
pub mod Identified
pub mod Named
pub mod Logged
pub mod NotedOnce
pub mod NotedEnds
pub mod Announced
pub mod Cutting
pub mod Stretches
pub mod Room
pub mod Bounded
pub mod WithinLimit
pub mod Broken
pub mod Killed
pub mod GivenOnce
pub mod Accounts
pub mod Histories
-- ---- dispatches
pub mod Reached
pub mod Dispatch
-- ---- what callers use
pub mod Plain
-- ---- what the functions inside promise each other
pub mod Inside
