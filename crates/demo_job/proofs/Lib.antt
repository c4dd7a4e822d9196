pub mod Standing
pub mod Summing
pub mod Giving
