pub mod Runs
pub mod Moving
pub mod Driven
pub mod Halted
