pub mod Rights
pub mod Placed
pub mod Shelf
