pub mod Announcement
pub mod Destruction
pub mod Proxy
