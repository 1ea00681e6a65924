pub mod Calls
pub mod Flags
pub mod Held
pub mod Queues
