pub mod HostAsks
pub mod BoardAsks
pub mod Counting
pub mod PerLineExample
