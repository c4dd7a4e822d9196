pub mod Modes
pub use Rattle.units.specs.Lengths
pub use Rattle.units.specs.Limits
