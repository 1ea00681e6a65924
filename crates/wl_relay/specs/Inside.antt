-- What the contracts of functions inside the crate name.
pub mod Passing
pub mod Gathering
pub mod Reading
