pub mod Progressing
pub mod SoFar
pub mod Here
pub mod Heard
