pub mod Given
pub mod Levels
pub mod CommandLine
pub mod Numbers
