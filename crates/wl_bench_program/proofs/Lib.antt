mod Replays
mod Rows
