pub mod Lending
pub mod FlushedClient
pub mod Inside
