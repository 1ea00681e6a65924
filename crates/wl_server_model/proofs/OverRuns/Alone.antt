-- Each client is what its own calls and the shared ones lead to alone.
pub mod IsolationLaw
pub mod OwnRuns
pub mod AccountLaws
pub mod HistoryLaws
