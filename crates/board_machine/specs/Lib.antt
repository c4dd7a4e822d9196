pub mod Machines
pub use Rattle.planner_runs.specs.Runs
pub use Rattle.planner_runs.specs.Moving
