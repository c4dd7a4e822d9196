pub mod Filling
pub mod Hards
pub mod Kept
pub mod Moved
pub mod Nominals
pub mod Onward
pub mod Paces
pub mod Rows
