-- The line of each record.
use Rattle.std.specs.Prelude.{◌≡◌, ℕ, ◌+◌, true, false, cond, nat_eq, ℤ, pos, negsuc, List, [], ◌∷◌, ◌++◌, length, drop, codes, decimal}
use Rattle.step_line.specs.declared.Bits.{Bits}
use Rattle.step_line.specs.declared.Head.{Head}
use Rattle.step_line.specs.declared.Mark.{Mark}
use Rattle.step_line.specs.declared.Mark.TheVariants.{Dwell, Spindle, Coolant, Cut, Reset}
use Rattle.step_line.specs.declared.SpindleCode.TheVariants.{M3, M4, M5}
use Rattle.step_line.specs.declared.Record.{Record}
use Rattle.step_line.specs.declared.Record.TheVariants as kinds
use Rattle.step_line.specs.Records.{IsRecord}

-- an axis that steps is written by its letter, and `+` or `-`
abbrev pub axis_text : ℕ → ℤ → List ℕ
axis_text letter (pos n) = cond (nat_eq n 0) [] (letter ∷ 43 ∷ [])
axis_text letter (negsuc n) = letter ∷ 45 ∷ []

-- the axes that step, in the order X, Y, Z
unfoldable pub event_text : Bits → List ℕ
event_text b = axis_text 88 b.x ++ axis_text 89 b.y ++ axis_text 90 b.z ++ codes "\n"

unfoldable pub head_text : Head → List ℕ
head_text h = codes "s " ++ decimal h.line ++ codes " " ++ decimal h.n ++ codes " " ++ decimal h.w ++ codes " " ++ decimal h.cycles ++ codes "\n"

unfoldable pub mark_text : Mark → List ℕ
mark_text (Dwell ms) = codes "D " ++ decimal ms ++ codes "\n"
mark_text (Spindle M3 speed) = codes "M3 " ++ decimal speed ++ codes "\n"
mark_text (Spindle M4 speed) = codes "M4 " ++ decimal speed ++ codes "\n"
mark_text (Spindle M5 speed) = codes "M5 0\n"
mark_text (Coolant true) = codes "M8 0\n"
mark_text (Coolant false) = codes "M9 0\n"
mark_text (Cut line) = codes "X " ++ decimal line ++ codes "\n"
mark_text (Reset line) = codes "Z " ++ decimal line ++ codes "\n"

-- the line of a record, ended by LF
abbrev pub record_text : Record → List ℕ
record_text (kinds.Head h) = head_text h
record_text (kinds.Event b) = event_text b
record_text (kinds.Mark m) = mark_text m
record_text kinds.End = codes "E\n"

-- the line of a record stands in a text, from one place to another
pub record IsLineOf (r : Record) (text : List ℕ) (at end : ℕ) : Type 0 where
  pub is : IsRecord r
  pub line : drop at text ≡ record_text r ++ drop end text
  pub place : end ≡ at + length (record_text r)
