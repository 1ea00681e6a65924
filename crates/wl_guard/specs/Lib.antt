-- What a guard lets through between a client and a compositor.
pub mod Policy
pub mod Known
pub mod Requests
pub mod Events
pub mod Passages
pub mod Fates
pub mod Steps
pub mod Ends
pub mod Queues
pub mod Guard
pub mod Closure
pub mod Runs
