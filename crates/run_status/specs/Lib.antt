pub mod Setups
pub mod Ends
pub mod Faults
pub mod Statuses
pub mod Demos
pub mod Complete
pub use Rattle.epoch_law.specs.Runs
