use Rattle.std.proofs.Common.{◌≤◌}
use Rattle.link_ports.specs.Standing.{IsOpenBehind}
use Rattle.link_ports.proofs.tests.fill.Given as goal

abbrev pub invariant-loop : goal.invariant-loop
invariant-loop l = IsOpenBehind l.stored l.host × (l.stored ≤ l.counter)
