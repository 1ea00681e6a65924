-- Globals, and what registries are told of them.
pub mod AtName
