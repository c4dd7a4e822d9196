pub mod Ran
pub mod Joined
pub mod Runs
pub mod Journals
pub mod SoFar
pub mod Devices
