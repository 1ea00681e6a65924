-- What a call of the object map does.
pub mod Store
pub mod ObjectMap
pub mod Unused
-- What a transport is asked and answers, and what a call of a link does.
pub mod Exchange
pub mod Script
pub mod ScriptLaws
pub mod Mailbox
pub mod MailboxLaws
pub mod MailboxCalls
pub mod Link
pub mod MailboxLink
pub mod HandOn
pub mod Relayed
pub mod Lending
pub mod Refusals
-- Laws of a link: that nothing is lost, what is read back, that there is one outcome.
pub mod NothingLost
pub mod Outcome
pub mod Sides
-- What a session is as a reader: what it puts, what a reading gives, what is served.
pub mod Puts
pub mod Reader
pub mod Served
pub mod Respect
pub mod Total
pub mod Stretch
-- Laws of runs: of calls, and of objects by their ids.
pub mod Runs
pub mod Identity
pub mod Named
-- What only the functions inside promise each other.
pub mod Inside
