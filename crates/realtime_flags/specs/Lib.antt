pub mod Bytes
pub mod Bits
pub mod Rule
pub mod Ends
