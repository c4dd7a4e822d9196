pub mod Percents
