-- A relay as a host drives it.
pub mod Relays
