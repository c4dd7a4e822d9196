pub mod Audited
pub mod Reading
pub mod SoFar
