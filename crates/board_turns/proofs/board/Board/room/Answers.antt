use Rattle.std.proofs.Common.{◌∷◌}
use Rattle.board_journal.specs.Ports.PortStep.{found_free}
use Rattle.board_journal.specs.Steps.{port_log}
use Rattle.board_journal.specs.Steps.Step.{at_port}
use Rattle.board_turns.proofs.Steps.{room_found}
use Rattle.board_turns.proofs.Telling.{asked_room}
use Rattle.board_turns.proofs.board.Board.room.Goals as goal

pub returns-clause-goes_on : goal.returns-clause-goes_on
returns-clause-goes_on g c rest first h stands k =
    let s = c.args.self.now in
    let bytes = c.free-bytes.result in
    (at_port (found_free bytes) ∷ h, c.free-bytes.ensures.free rest first (port_log h) stands, room_found first s bytes h k, asked_room first s c.free_blocks.result bytes h k c.free_blocks.ensures)
