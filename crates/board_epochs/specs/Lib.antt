pub mod Resets
pub mod Work
pub mod Bounds
pub mod Epochs
pub mod Reports
pub mod Greetings
