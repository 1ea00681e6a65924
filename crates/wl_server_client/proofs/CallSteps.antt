-- What a method of a client did, and the numbers of the notes that it made.
pub mod Doing
pub mod Numbers
