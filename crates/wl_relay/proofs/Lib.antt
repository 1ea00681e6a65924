mod Came
mod Gathered
mod Held
mod HexWords
mod InputLines
mod LastRow
mod LogLines
mod Numbers
mod RowWords
mod TableLines
pub mod Answers
pub mod Flows
pub mod Lines
pub mod OneSend
pub mod Ready
pub mod Runs
pub mod Settings
