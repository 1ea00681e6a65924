-- What holds over runs of calls.
pub mod ChangeLaws
pub mod FailedLaws
pub mod IdentityLaws
pub mod ReadingLaws
pub mod RoomLaws
pub mod OutcomeLaws
pub mod StretchLaws
pub mod AccountLaws
pub mod ScriptedLaws
pub mod HeardLaws
pub mod NumberLaws
pub mod FreedLaws
