pub mod Parts
pub mod Ways
pub mod Keeping
pub mod Judging
pub mod Settling
pub mod Views
pub mod Nearness
pub mod Greeting
