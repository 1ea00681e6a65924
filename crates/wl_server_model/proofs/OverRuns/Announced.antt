-- What a registry announces.
pub mod RequestCases
pub mod AnnouncementLaws
pub mod ShownLaws
pub mod InterfaceLaws
pub mod Watching
pub mod WatchedVerdicts
pub mod WatchedReadings
pub mod WatchedCalls
pub mod AnnouncedLaw
