pub mod Keeping
pub mod Lefts
pub mod Since
pub mod Desks
pub mod Interpreting
pub use Rattle.run_rules.specs.Work
pub use Rattle.run_rules.specs.Outcomes
pub use Rattle.run_rules.specs.Finding
