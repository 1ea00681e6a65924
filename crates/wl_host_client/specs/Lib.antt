pub mod Allowed
pub mod Client
pub mod ClientTellings
pub mod Faults
pub mod Runs
pub mod Tables
