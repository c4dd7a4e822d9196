pub mod Epochs
pub mod Runs
pub mod Stretches
pub mod Publishing
pub mod SoFar
pub mod Cutting
pub mod Rows
