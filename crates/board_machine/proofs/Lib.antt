pub mod Machining
