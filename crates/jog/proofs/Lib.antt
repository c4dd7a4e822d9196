pub mod Causes
pub mod Feeds
pub mod Going
