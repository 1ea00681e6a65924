-- What is on its way through the relay, the log, and the program's lines.
pub mod Announcements
pub mod Log
pub mod Flow
pub mod Runs
pub mod Words
pub mod Rows
pub mod Input
pub mod Program
pub mod Inside
