-- Laws: what follows from the definitions, by topic.
pub mod OverRuns
-- What a program finds after a call.
pub mod Plain
-- What the proofs of functions share, and worked values.
pub mod Requests
pub mod Sending
pub mod Vacating
pub mod Handling
pub mod NewIds
pub mod Readings
mod Flushing
mod EventInPlace
pub mod Freeing
mod Taking
mod Rows
