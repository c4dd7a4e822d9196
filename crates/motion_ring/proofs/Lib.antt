pub mod Ticks
pub mod Sides
pub mod Words
pub mod Flows
pub mod Frame
pub mod Publishing
pub mod Getting
pub mod Seats
mod Tried
