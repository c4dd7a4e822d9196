pub mod Geometry
pub mod Caps
pub use Rattle.units.specs.Lengths
pub use Rattle.units.specs.Limits
pub use Rattle.units.specs.Counting
pub mod Junctions
