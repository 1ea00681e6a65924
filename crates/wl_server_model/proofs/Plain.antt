-- What a program finds after a call, from the step that the call is.
pub mod Base
pub mod Verdicts
pub mod Objects
pub mod Actions
pub mod Clients
pub mod ReadingEnds
pub mod Reading
pub mod WithinLimit
pub mod Globals
pub mod Events
pub mod Dispatch
pub mod Chosen
