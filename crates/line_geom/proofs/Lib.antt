pub mod Squares
pub mod Signs
pub mod Lines
pub mod Geometries
