pub mod Ends
pub mod Ticks
pub mod Moves
pub mod Whole
pub mod Tried
