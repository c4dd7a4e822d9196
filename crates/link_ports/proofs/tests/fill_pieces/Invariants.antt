use Rattle.std.proofs.Common.{◌+◌, ◌≤◌}
use Rattle.link_ports.specs.Standing.{HasPublished}
use Rattle.link_ports.proofs.tests.fill_pieces.Given as goal

abbrev pub invariant-loop : goal.invariant-loop
invariant-loop l = HasPublished (l.ticks + l.published) l.board × (l.published ≤ l.counter)
