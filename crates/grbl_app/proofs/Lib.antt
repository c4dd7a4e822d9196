pub mod Tasks
