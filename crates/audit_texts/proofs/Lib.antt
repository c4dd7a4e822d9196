pub mod JobRead
pub mod JobTold
pub mod ConsoleRead
pub mod ConsoleNext
pub mod StepsRead
pub mod StepsNext
