pub mod HostSides
pub mod BoardSides
pub mod MotionSides
pub mod Rigs
