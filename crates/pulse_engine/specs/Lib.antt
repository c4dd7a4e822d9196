pub mod Logs
pub mod Steps
pub mod Turns
pub use Rattle.step_line.specs.Ordering
