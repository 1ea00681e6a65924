pub mod Inside
pub mod Replay
pub mod OneVerdict
