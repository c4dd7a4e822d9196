use Rattle.std.proofs.Common.{◌≤◌}
use Rattle.link_ports.specs.Standing.{OwesAnswers}
use Rattle.link_ports.proofs.tests.fill_replies.Given as goal

abbrev pub invariant-loop : goal.invariant-loop
invariant-loop l = OwesAnswers 0 l.answered l.board × (l.answered ≤ l.counter)
