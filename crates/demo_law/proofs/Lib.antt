pub mod Moves
pub mod Following
pub mod Cutting
