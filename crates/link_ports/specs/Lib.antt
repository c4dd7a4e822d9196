pub mod Loads
pub mod Hosts
pub mod Boards
pub mod Standing
