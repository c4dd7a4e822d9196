-- What pins were handed.
use Rattle.std.specs.Prelude.{List, [], ◌∷◌}
use Rattle.step_line.specs.declared.Bits.{Bits}
use Rattle.step_line.specs.Logs.{NewestFirst}

-- what pins were handed, the latest first, once they are handed these besides, in order
abbrev pub pinned : List Bits → NewestFirst Bits → NewestFirst Bits
pinned [] made = made
pinned (b ∷ bits) made = pinned bits (b ∷ made)
