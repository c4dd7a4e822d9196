pub mod Marks
pub mod Lists
pub mod Logs
pub mod Rule
pub mod Ends
