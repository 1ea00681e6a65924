-- Where memory is not refused there is one outcome.
pub mod NumberLaws
pub mod PartOutcome
pub mod OfferLaws
pub mod RunOutcome
pub mod MoveLaws
pub mod SameNotes
pub mod WholeLaws
pub mod WholeRuns
pub mod DispatchLaws
