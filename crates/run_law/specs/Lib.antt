pub mod Flags
pub mod Changes
pub mod Fronts
pub mod Taking
pub mod Runs
pub mod Ran
pub mod SoFar
pub mod Devices
