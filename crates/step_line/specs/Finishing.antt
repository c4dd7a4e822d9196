-- The pieces of a run in order, the oldest first, and how many of them are unfinished while some of their ticks are
-- done.
use Rattle.std.specs.Prelude.{ℕ, suc, ◌-◌, cond, nat_lt, List, [], ◌∷◌, length}
use Rattle.std.specs.List.{flat_map}
use Rattle.step_line.specs.declared.Piece.{Piece}
use Rattle.step_line.specs.Pieces.{ticks_of}

-- how many ticks a piece has
abbrev pub tick_count : Piece → ℕ
tick_count p = length (ticks_of p)

-- how many ticks some pieces have together
abbrev pub ticks_together : List Piece → ℕ
ticks_together ps = length (flat_map ticks_of ps)

-- so many published pieces may be unfinished at once
abbrev pub most_unfinished : ℕ
most_unfinished = 5

-- how many of some pieces have a tick that is not among the first so many
abbrev pub unfinished : List Piece → ℕ → ℕ
unfinished [] done = 0
unfinished (p ∷ ps) done = cond (nat_lt done (tick_count p)) (suc (unfinished ps (done - tick_count p))) (unfinished ps (done - tick_count p))
