pub mod Ticks
pub mod Sides
pub mod Rule
pub mod Ends
