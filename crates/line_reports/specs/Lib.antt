pub mod PerLine
