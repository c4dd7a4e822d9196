pub mod Blocks
pub mod Plans
pub mod Segments
pub mod Taking
pub mod Joining
