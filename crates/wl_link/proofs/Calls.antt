-- What one call of a link does.
pub mod FlushLaws
pub mod WriteLaws
pub mod ReadLaws
pub mod TakenLaws
pub mod NothingLostLaws
pub mod OneLaws
pub mod NumberLaws
pub mod Branches
pub mod QueueLaws
pub mod LaterLaws
pub mod FoundLaws
pub mod Growth
pub mod OneScript
pub mod HandOnLaws
pub mod MailboxLinkLaws
pub mod OneMailbox
pub mod MailboxLaws
