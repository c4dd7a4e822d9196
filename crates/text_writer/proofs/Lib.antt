pub mod Arriving
pub mod Shortening
