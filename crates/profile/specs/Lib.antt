pub mod Profiles
pub mod Passes
pub mod Caps
pub mod Slowing
pub mod Settled
