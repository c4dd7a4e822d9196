pub mod Numbers
pub use Rattle.units.specs.Lengths
pub use Rattle.units.specs.Limits
pub use Rattle.code_table.specs.Tables
pub use Rattle.code_table.specs.Refusals
