pub mod Rests
pub mod Limits
