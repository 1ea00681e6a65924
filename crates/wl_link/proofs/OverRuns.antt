-- Runs of calls.
pub mod RunLaws
