-- Worked values, computed from the definitions: they say what was meant.
pub mod Messages
pub mod Calls
pub mod Violations
pub mod Servers
pub mod WholeCalls
pub mod Announcements
pub mod Limited
pub mod Registries
