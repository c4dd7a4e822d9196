pub mod Jobs
pub mod Giving
