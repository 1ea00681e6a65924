-- What is written is read back, and so alone.
pub mod CursorLaws
pub mod RoundTrip
pub mod MatchingLaws
pub mod FrontLaws
