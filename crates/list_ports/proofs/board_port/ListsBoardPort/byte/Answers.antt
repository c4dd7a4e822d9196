use Rattle.std.proofs.Common.{sym, ◌∙◌}
use Rattle.list_ports.proofs.Fronts.{some_first}
use Rattle.list_ports.proofs.Steps.{byte_waits}
use Rattle.list_ports.proofs.board_port.ListsBoardPort.byte.Goals.{in-Some, in-None, in-None-2}
use Rattle.list_ports.proofs.board_port.ListsBoardPort.byte.Goals as goal

pub returns-clause-marked : goal.returns-clause-marked
returns-clause-marked g c far l joined past =
    let v = sym c.self.view_is in
    let some = byte_waits _ _ _ _ (rw v at joined) past in
    elim c.match-pop_front.branch [
      | in-Some w ↦ (w.in-Some.byte, w.result-is)
      | in-None w ↦ absurd (some_first c.self.inside.bytes.items some (sym w.in-None.is ∙ c.pop_front.ensures.value))
      | in-None-2 w ↦ absurd (some_first c.self.inside.bytes.items some (sym w.in-None.is ∙ c.pop_front.ensures.value))
    ]
