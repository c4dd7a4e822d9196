pub mod Places
pub mod Flights
pub mod Halts
