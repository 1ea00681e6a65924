-- The objects of a client that leaves are noted.
pub mod Ending
