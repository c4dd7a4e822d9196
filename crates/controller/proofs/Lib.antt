pub mod Going
pub mod Working
pub mod Turns
pub mod Kept
pub mod Greets
