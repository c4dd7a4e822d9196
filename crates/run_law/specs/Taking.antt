-- What a host raised of flags, and what a board took, by the logs of their ports.
pub use Rattle.host_journal.specs.Raises.{raised_to, raises_in}
pub use Rattle.board_journal.specs.Takes.{takes_at, takes_in}
