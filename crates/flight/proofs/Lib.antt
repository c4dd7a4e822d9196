pub mod Counts
pub mod Places
pub mod Flying
pub mod Slots
pub mod Halts
