-- What a stretch of a run over the transport by script gives.
pub mod SendingLaws
pub mod ArrivalLaws
pub mod RanLaws
pub mod StretchLaws
