mod Recordings
mod Compared
mod SameAgain
mod Rows
