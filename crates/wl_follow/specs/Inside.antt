-- What the contracts of functions inside the crate name.
pub mod Freeing
pub mod Telling
