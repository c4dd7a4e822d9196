-- What becomes of the pieces of an epoch, one by one: all but the last ones are put whole, one is cut, and the others are dropped.
use Rattle.std.specs.Prelude.{◌≡◌, ℕ, ◌+◌, ◌<◌, List, [], ◌∷◌, ◌++◌, length}
use Rattle.std.specs.List.{AllByRecursion}
use Rattle.planner_runs.specs.Runs.{all_records}
use Rattle.run_texts.specs.Fronts.{BeginsWith}
use Rattle.step_line.specs.Asking.{ticks_among}
use Rattle.step_line.specs.Finishing.{tick_count, ticks_together}
use Rattle.step_line.specs.Pieces.{records_of}
use Rattle.step_line.specs.declared.Piece.{Piece}
use Rattle.step_line.specs.declared.Record.{Record}

-- each of some pieces has a tick: it is a mark, or a segment of some events
abbrev pub HaveTicks : List Piece → Type 0
HaveTicks ps = AllByRecursion (λ p. 0 < tick_count p) ps

-- The first of these pieces is cut behind so many of its ticks, and this is put of it; of the others nothing is.
abbrev pub IsPutOfFirst : List Piece → ℕ → List Record → Type 0
IsPutOfFirst [] m cut = (m ≡ 0) × (cut ≡ [])
IsPutOfFirst (p ∷ dropped) m cut = (m < tick_count p) × BeginsWith (records_of p) cut × (length (ticks_among cut) ≡ m)

-- Of these pieces so many ticks are made: those of whole pieces, and the first of one that is cut. That is what is put of them.
pub record IsCutAmong (ps : List Piece) (done : ℕ) (mine : List Record) : Type 0 where
  pub whole : List Piece
  pub others : List Piece
  pub both : ps ≡ whole ++ others
  pub m : ℕ
  pub ticks : done ≡ ticks_together whole + m
  pub cut : List Record
  pub put : mine ≡ all_records whole ++ cut
  pub first : IsPutOfFirst others m cut
