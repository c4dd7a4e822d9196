use Rattle.std.proofs.Common.{◌≡◌}
use Rattle.link_ports.specs.Standing.{OwesAnswers}
use Rattle.link_ports.proofs.tests.say_bye.Given as goal

abbrev pub invariant-loop : goal.invariant-loop
invariant-loop g l = OwesAnswers 0 l.answered l.board
