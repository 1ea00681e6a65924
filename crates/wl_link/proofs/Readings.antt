-- What a reading gives, and what is served.
pub mod PutsLaws
pub mod ServedLaws
pub mod CuttingLaws
pub mod ReaderLaws
pub mod RespectLaws
pub mod ReaderLoops
pub mod LogLaws
pub mod TotalLaws
pub mod AnsweringLaws
pub mod HoldingLaws
