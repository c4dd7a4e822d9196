pub mod Order
pub mod Rows
pub mod Fill
pub mod Sorting
