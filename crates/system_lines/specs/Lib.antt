pub mod Commands
pub use Rattle.units.specs.Decimals
pub use Rattle.units.specs.Reading
pub use Rattle.code_table.specs.Refusals
pub use Rattle.code_table.specs.Tables
pub use Rattle.settings.specs.Numbers
