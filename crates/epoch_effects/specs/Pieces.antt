-- What was published in an epoch: the pieces that its parts have given, with the marks of its cuts between them.
use Rattle.std.specs.Prelude.{◌≡◌, ℕ, ◌≤◌, ◌⊎◌, List, [], ◌∷◌, ◌++◌}
use Rattle.run_texts.specs.Courses.{Passed}
use Rattle.run_texts.specs.Courses.Passed.{a_cut}
use Rattle.step_line.specs.Finishing.{ticks_together}
use Rattle.step_line.specs.declared.Mark.TheVariants as marks
use Rattle.step_line.specs.declared.Piece.{Piece}
use Rattle.step_line.specs.declared.Piece.TheVariants as pieces
use Rattle.epoch_courses.specs.Drives.{Driven}
use Rattle.epoch_effects.specs.Effects.{EpochEffects, Stop}
use Rattle.epoch_effects.specs.Effects.Stop.{runs_on, is_halted, is_cut}

-- the numbers of its cuts
abbrev pub cut_numbers : List Passed → List ℕ
cut_numbers [] = []
cut_numbers (a_cut k at ∷ ps) = k ∷ cut_numbers ps
cut_numbers (_ ∷ ps) = cut_numbers ps

-- the pieces of parts, each before the mark of the cut that ends it
abbrev pub pieces_between : List ℕ → List Driven → List Piece
pieces_between ks [] = []
pieces_between [] (d ∷ ds) = d.given ++ pieces_between [] ds
pieces_between (k ∷ ks) (d ∷ ds) = d.given ++ pieces.Mark (marks.Cut k) ∷ pieces_between ks ds

abbrev pub pieces_of : EpochEffects → List Piece
pieces_of e = pieces_between (cut_numbers e.passed) e.drives

-- What was given behind the parts: nothing, or the end; or the mark of a cut that is not made, and more.
abbrev pub IsBehind : Stop → List Piece → Type 0
IsBehind is_cut [] = ⊥
IsBehind is_cut (pieces.Segment s ∷ more) = ⊥
IsBehind is_cut (pieces.End ∷ more) = ⊥
IsBehind is_cut (pieces.Mark (marks.Dwell ms) ∷ more) = ⊥
IsBehind is_cut (pieces.Mark (marks.Spindle code speed) ∷ more) = ⊥
IsBehind is_cut (pieces.Mark (marks.Coolant on) ∷ more) = ⊥
IsBehind is_cut (pieces.Mark (marks.Reset k) ∷ more) = ⊥
IsBehind is_cut (pieces.Mark (marks.Cut k) ∷ more) = Unit {0}
IsBehind runs_on more = (more ≡ []) ⊎ (more ≡ pieces.End ∷ [])
IsBehind is_halted more = (more ≡ []) ⊎ (more ≡ pieces.End ∷ [])

-- The pieces published, and what is in hand, are those of the parts in order, and what is behind them. No tick of the mark of a cut that
-- is not made is made, and none behind it.
pub record ArePublished (e : EpochEffects) : Type 0 where
  pub hand : List Piece
  pub behind : List Piece
  pub both : e.pieces ++ hand ≡ pieces_of e ++ behind
  pub rest : IsBehind e.stop behind
  pub undone : e.stop ≡ is_cut → e.made ≤ ticks_together (pieces_of e)
