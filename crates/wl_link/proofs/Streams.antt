-- What was written is read back, however it was cut.
pub mod StreamLaws
pub mod LengthLaws
pub mod RoomLaws
