pub mod Boards
pub mod Turning
pub mod Reporting
pub use Rattle.board_rules.specs.Conduct
pub use Rattle.board_rules.specs.Turns
pub use Rattle.board_machine.specs.Machines
