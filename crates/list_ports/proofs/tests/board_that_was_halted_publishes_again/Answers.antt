use Rattle.list_ports.proofs.Standing.{begins}
use Rattle.list_ports.proofs.tests.board_that_was_halted_publishes_again.Goals as goal

pub publish-requires : goal.publish-requires
publish-requires g c = begins _ c.fresh-lists.ensures
