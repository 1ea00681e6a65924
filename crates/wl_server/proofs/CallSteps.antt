-- How a call is a step of the server.
pub mod Kept
pub mod OneClient
pub mod Transport
pub mod LendingData
