-- That a dispatch is a run of calls, and ends.
pub mod Joining
pub mod Waiting
pub mod Standing
pub mod Serving
pub mod Receiving
