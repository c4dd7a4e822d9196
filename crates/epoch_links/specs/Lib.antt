pub mod Pieces
pub mod Taken
pub mod Links
pub mod Drops
