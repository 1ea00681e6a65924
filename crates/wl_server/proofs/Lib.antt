pub mod CallSteps
mod Touched
mod Worked
