-- Clients and objects that are made, told of and ended.
pub mod Setting
pub mod Told
pub mod Inserting
pub mod Choosing
