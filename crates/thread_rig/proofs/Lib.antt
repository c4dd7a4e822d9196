pub mod Meeting
pub mod Finishing
