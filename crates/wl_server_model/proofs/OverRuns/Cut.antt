-- It does not matter how bytes are cut into receives.
pub mod CuttingLaws
pub mod AnswerLaws
pub mod StretchLaws
pub mod RoomLaws
