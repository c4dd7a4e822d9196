pub mod Conduct
pub mod Epochs
pub mod Hosts
pub mod Ran
pub use Rattle.run_rules.specs.Lines
pub use Rattle.run_rules.specs.Readings
pub use Rattle.run_rules.specs.Told
