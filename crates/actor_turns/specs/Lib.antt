pub mod Worlds
pub mod Lockstep
pub mod Pacing
pub mod Orders
