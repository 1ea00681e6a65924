pub mod CallSteps
pub mod CleanupSteps
pub mod GlobalCalls
pub mod ObjectCalls
pub mod Readings
