use Rattle.std.proofs.Common.{◌≡◌, ◌≤◌, true}
use Rattle.link_ports.specs.Standing.{OwesAnswers}
use Rattle.link_ports.proofs.tests.answer_all.Given as goal

abbrev pub invariant-loop : goal.invariant-loop
invariant-loop g l = OwesAnswers 0 l.counts.answered l.board × (l.owes ≡ true → OwesAnswers 1 l.counts.answered l.board) × (l.counts.answered ≤ 2000000)
