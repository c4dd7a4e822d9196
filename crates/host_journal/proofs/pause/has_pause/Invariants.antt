use Rattle.std.proofs.Common.{◌≡◌, drop}
use Rattle.host_journal.specs.Holding.{has_pause}
use Rattle.host_journal.proofs.pause.has_pause.Given as goal

abbrev pub invariant-loop-place : goal.invariant-loop-place
invariant-loop-place l = has_pause (drop l.place l.text) ≡ has_pause l.text
