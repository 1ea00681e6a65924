-- Clients and objects that are made, told of and ended.
pub mod Creation
pub mod Posting
pub mod Told
pub mod EventFaults
pub mod SendingEvents
pub mod Closing
pub mod Destroying
pub mod Choosing
pub mod Naming
