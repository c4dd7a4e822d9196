pub mod Runs
pub mod Ticks
pub mod Standing
pub mod Taking
pub mod Following
pub mod Legal
pub mod Driven
