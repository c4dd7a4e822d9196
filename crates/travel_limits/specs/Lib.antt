pub mod Reach
pub use Rattle.units.specs.Lengths
pub use Rattle.units.specs.Limits
pub use Rattle.settings.specs.Numbers
