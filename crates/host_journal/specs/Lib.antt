pub mod Links
pub mod Jobs
pub mod Holding
pub mod Steps
pub mod Ports
pub mod Raises
