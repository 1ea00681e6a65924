-- What stands in the clauses `plain`, from what each call does.
pub mod Naming
pub mod Finishing
pub mod Sending
pub mod Opening
pub mod Staying
pub mod Reading
pub mod ReadingEnds
pub mod Calls
