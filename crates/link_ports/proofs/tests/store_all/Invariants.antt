use Rattle.std.proofs.Common.{◌≤◌}
use Rattle.link_ports.specs.Standing.{IsOpenBehind}
use Rattle.link_ports.proofs.tests.store_all.Given as goal

abbrev pub invariant-loop : goal.invariant-loop
invariant-loop g l = IsOpenBehind l.stored l.host × (l.stored ≤ 1000000)
