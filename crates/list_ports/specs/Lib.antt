pub mod Passing
pub mod Asked
pub mod Joining
pub mod Finding
pub mod Standing
