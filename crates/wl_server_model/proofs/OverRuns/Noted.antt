-- Each object that leaves with user data is noted once.
pub mod NotedLaws
pub mod PlacesInOrder
pub mod NotesInOrder
pub mod ErrorLaws
pub mod EarlierFirst
