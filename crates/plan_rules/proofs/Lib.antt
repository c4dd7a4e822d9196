pub mod Bounds
pub mod Junctions
pub mod Reached
pub mod Joins
