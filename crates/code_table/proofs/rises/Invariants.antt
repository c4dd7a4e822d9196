use Rattle.std.proofs.Common.{ℕ, ◌+◌, ◌<◌, get_or}
use Rattle.code_table.proofs.rises.Given as goal

-- each key so far is below the next
abbrev pub invariant-loop-place : goal.invariant-loop-place
invariant-loop-place l = (k : ℕ) → k + 1 < l.place → get_or l.keys k 0 < get_or l.keys (k + 1) 0
