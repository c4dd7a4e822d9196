pub mod Taken
pub mod Course
pub mod Told
pub mod Drives
