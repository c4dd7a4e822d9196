use Rattle.std.proofs.Common.{rules, ◌≡◌, ℕ, ◌<◌, false, List, [], ◌∷◌, length, arith}
use Rattle.system_lines.specs.Commands.{kind_of}
use Rattle.run_rules.specs.Locking.{unlocks}
use Rattle.board_lines.proofs.input.Input.unlocks.Goals as goal

-- `$X` has two bytes
long_locks : (bytes : List ℕ) → 79 < length bytes → false ≡ unlocks bytes
unfolding kind_of
long_locks [] long = absurd (omega (arith, long))
long_locks (a ∷ []) long = absurd (omega (arith, long))
long_locks (a ∷ b ∷ []) long = absurd (omega (arith, long))
long_locks (a ∷ b ∷ c ∷ cs) long = search rules

pub returns-in-None : goal.returns-in-None
returns-in-None c = λ bytes whole r. long_locks bytes (c.bytes.ensures.long c.in-None.is bytes r.kept_is)
