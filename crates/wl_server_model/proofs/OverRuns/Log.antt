-- The log of a client is what was put.
pub mod LogLaws
