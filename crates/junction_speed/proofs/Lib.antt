pub mod Caps
pub mod Products
pub mod Reversals
