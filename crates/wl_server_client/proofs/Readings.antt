-- How messages that are handled join to a reading, and how an action ends.
pub mod Notes
pub mod Texts
pub mod Finishing
pub mod Handling
pub mod Limits
pub mod Requesting
pub mod OneMessage
pub mod InPlace
pub mod Naming
pub mod DataGiven
