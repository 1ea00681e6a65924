-- The ids that a server hands out.
pub mod AmongLaws
pub mod ChangeLaws
pub mod ReplyLaws
pub mod IdentityLaws
pub mod NamedLaws
pub mod GivenLaws
