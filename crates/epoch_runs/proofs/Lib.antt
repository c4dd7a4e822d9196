pub mod Pieces
pub mod Parts
pub mod Settled
pub mod Ends
pub mod Runs
pub mod Sent
pub mod SoFar
pub mod Open
