pub mod Finds
pub mod Rights
pub mod Placed
pub mod Shelf
pub mod Places
