-- Each call is a chain of base moves.
pub mod BaseMoves
pub mod DoingsLaws
pub mod MovesOfVerdicts
pub mod MovesOfRequests
pub mod MovesOfReadings
pub mod MovesOfCalls
pub mod BaseMovesLaw
