pub mod Ports
pub mod Openings
pub mod Steps
pub mod Takes
