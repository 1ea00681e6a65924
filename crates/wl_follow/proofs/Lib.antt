pub mod Backlogs
pub mod Freed
pub mod Fronts
pub mod Runs
pub mod Telling
pub mod Turns
