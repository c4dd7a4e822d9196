pub mod Moves
pub mod Speeds
pub mod Measuring
pub mod Whole
