pub mod Lists
pub mod Hosting
pub mod Queries
pub mod Boarding
pub mod Standing
pub mod Agreeing
