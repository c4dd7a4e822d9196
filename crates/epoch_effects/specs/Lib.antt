pub mod Words
pub mod Effects
pub mod Asking
pub mod Reports
pub mod Pieces
pub mod Locks
pub mod Over
pub mod Greetings
