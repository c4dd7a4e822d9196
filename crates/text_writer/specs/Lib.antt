pub mod Writers
pub mod Holding
pub use Rattle.outside.specs.Causes
pub use Rattle.outside.specs.Writing
