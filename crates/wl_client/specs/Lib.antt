-- What a session holds, and what a call of it does.
pub mod ObjectId
pub mod Session
pub mod Lending
pub mod Objects
pub mod ByNumber
pub mod Requests
pub mod Events
pub mod Handling
pub mod Freeing
pub mod Reading
pub mod Finish
pub mod Plain
pub mod ReadingEnds
pub mod Steps
pub mod Histories
pub mod Scripted
-- Laws of runs.
pub mod Handed
pub mod Named
pub mod Noted
pub mod Failed
pub mod Replies
pub mod OneOutcome
pub mod Cutting
pub mod Stretches
pub mod Heard
pub mod Numbers
pub mod Freed
pub mod Accounts
-- What only the functions inside promise each other.
pub mod Inside
