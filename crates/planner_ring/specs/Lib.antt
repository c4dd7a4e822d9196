pub mod Windows
pub mod Lending
