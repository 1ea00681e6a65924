pub mod Answering
pub mod Calling
pub mod Crossing
pub mod Machine
pub mod Steps
