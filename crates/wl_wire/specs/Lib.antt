-- What a message is, and how it is written and read.
pub mod Text
pub mod Argument
pub mod Message
pub mod Pieces
pub mod Reading
pub mod Parse
pub mod Stream
-- The table of interfaces, and what a message asks for.
pub mod Table
pub mod MessageRows
-- The text of a message in a log.
pub mod LogText
pub mod Enum
-- Descriptors and ids that are replaced.
pub mod MapFd
pub mod MapIds
-- What only the functions inside promise each other.
pub mod Inside
