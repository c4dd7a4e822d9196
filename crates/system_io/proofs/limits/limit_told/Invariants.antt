use Rattle.std.proofs.Common.{ℕ, length}
use Rattle.std.specs.Prelude.{Option}
use denote.Text.{Utf8}
use denote.Shadow.{shadow}
use Rattle.system_io.specs.Limits.{TellsLimit}
use Rattle.system_io.proofs.limits.limit_told.Given as goal

-- no line so far had a limit
abbrev pub invariant-loop-line : goal.invariant-loop-line
invariant-loop-line l = shadow (Utf8 l.rest) × ((told : Option ℕ) → TellsLimit l.rest told → TellsLimit l.fn.text told)

abbrev pub decreases-loop-line : goal.decreases-loop-line
decreases-loop-line l = length l.rest
