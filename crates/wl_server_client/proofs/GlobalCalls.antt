-- Globals, and what registries are told of them.
pub mod Putting
pub mod PutEach
pub mod Announcing
pub mod SameIds
