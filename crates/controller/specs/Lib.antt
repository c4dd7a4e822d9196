pub mod Boards
pub mod Turning
