-- The pieces of a run, and what is recorded of them.
use Rattle.std.specs.Prelude.{◌≡◌, Bool, true, false, List, [], ◌∷◌, ◌++◌}
use Rattle.step_line.specs.declared.Piece.{Piece}
use Rattle.step_line.specs.declared.Piece.TheVariants.{Segment, Mark, End}
use Rattle.step_line.specs.declared.Record.{Record}
use Rattle.step_line.specs.Logs.{NewestFirst}
use Rattle.step_line.specs.Pieces.{ComesBehind, records_of}

-- whether the last piece is the end
abbrev pub has_ended : NewestFirst Piece → Bool
has_ended [] = false
has_ended (Segment s ∷ before) = false
has_ended (Mark m ∷ before) = false
has_ended (End ∷ before) = true

-- a piece may come after these
pub record ComesNext (before : NewestFirst Piece) (p : Piece) : Type 0 where
  pub going : has_ended before ≡ false
  pub follows : ComesBehind before p

-- each piece may come after those before it
abbrev pub InTurn : NewestFirst Piece → Type 0
InTurn [] = Unit {0}
InTurn (p ∷ before) = ComesNext before p × InTurn before

-- what is recorded of the pieces, in the order in which they came
abbrev pub recorded : NewestFirst Piece → List Record
recorded [] = []
recorded (p ∷ before) = recorded before ++ records_of p
