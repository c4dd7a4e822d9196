pub mod Leasts
pub mod Places
pub mod Passes
pub mod Caps
pub mod Slowing
pub mod Kept
pub mod Settled
pub mod Settling
