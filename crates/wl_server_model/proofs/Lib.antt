pub mod CallSteps
pub mod CleanupSteps
pub mod Dispatches
pub mod GlobalCalls
pub mod ObjectCalls
pub mod OverRuns
pub mod Plain
pub mod Worked
