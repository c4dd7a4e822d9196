-- Where the machine is while pieces are run that halts cut short.
use Rattle.std.specs.Prelude.{ℕ, ◌+◌, ◌-◌, ◌≤◌, List, [], ◌∷◌, ◌++◌, take}
use Rattle.std.specs.List.{flat_map}
use Rattle.units.specs.declared.Steps3.{Steps3}
use Rattle.step_line.specs.declared.Piece.{Piece}
use Rattle.step_line.specs.declared.Record.{Record}
use Rattle.step_line.specs.Pieces.{ticks_of}
use Rattle.step_line.specs.Finishing.{ticks_together}
use Rattle.flight.specs.Places.{moved_by, origin}

-- the pieces published between two halts, in order, and how many of their ticks were done at the second
pub record Stretch : Type 0 where
  pub pieces : List Piece
  pub done : ℕ

-- no more ticks are done than the pieces of a stretch have
abbrev pub AreStretches : List Stretch → Type 0
AreStretches [] = Unit {0}
AreStretches (s ∷ ss) = (s.done ≤ ticks_together s.pieces) × AreStretches ss

-- the ticks that were made up to the last halt, in order: of each stretch the first so many
abbrev pub ticks_made : List Stretch → List Record
ticks_made [] = []
ticks_made (s ∷ ss) = take s.done (flat_map ticks_of s.pieces) ++ ticks_made ss

-- and how many they are
abbrev pub count_made : List Stretch → ℕ
count_made [] = 0
count_made (s ∷ ss) = s.done + count_made ss

-- where the machine is after so many ticks in all, the pieces published since the last halt being these
abbrev pub machine_after : List Stretch → List Piece → ℕ → Steps3
machine_after ss ps done = moved_by origin (take done (ticks_made ss ++ flat_map ticks_of ps))

-- where the last halt left it
abbrev pub halted_at : List Stretch → Steps3
halted_at ss = moved_by origin (ticks_made ss)

-- these pieces were halted once so many ticks were done in all
abbrev pub halted : List Stretch → List Piece → ℕ → List Stretch
halted ss ps done = ss ++ record { pieces = ps; done = done - count_made ss } ∷ []
