-- What one side of a port has done.
use Rattle.std.specs.Prelude.{◌≡◌, ℕ, ◌+◌, ◌-◌, ◌<◌, Bool, true, false, List, [], ◌∷◌, ◌++◌, length}
use Rattle.units.specs.Truths.{one_if}
use Rattle.step_line.specs.declared.Piece.{Piece}
use Rattle.step_line.specs.declared.Record.{Record}
use Rattle.step_line.specs.Logs.{NewestFirst}
use Rattle.step_line.specs.Records.{is_tick, is_end}
use Rattle.step_line.specs.Pieces.{ticks_of, records_of}

-- it was asked for a stop, and whether one waited; a piece was got; there was none; a tick was counted; it halted, and some pieces
-- that were not got were dropped
pub data PieceEvent : Type 0 where
  asked : Bool → PieceEvent
  got : Piece → PieceEvent
  none : PieceEvent
  ticked : PieceEvent
  halted : NewestFirst Piece → PieceEvent

abbrev pub PieceLog : Type 0
PieceLog = NewestFirst PieceEvent

-- the pieces that were got or dropped
abbrev pub pieces_of : PieceLog → NewestFirst Piece
pieces_of [] = []
pieces_of (got p ∷ h) = p ∷ pieces_of h
pieces_of (halted ps ∷ h) = ps ++ pieces_of h
pieces_of (_ ∷ h) = pieces_of h

-- the pieces that were got since the last halt
abbrev pub got_since : PieceLog → NewestFirst Piece
got_since [] = []
got_since (got p ∷ h) = p ∷ got_since h
got_since (halted ps ∷ h) = []
got_since (_ ∷ h) = got_since h

-- how many ticks were counted
abbrev pub counted : PieceLog → ℕ
counted [] = 0
counted (ticked ∷ h) = counted h + 1
counted (_ ∷ h) = counted h

-- how many ticks of the piece that was got last are not counted; a piece that a halt cut has no further tick to count
abbrev pub uncounted : PieceLog → ℕ
uncounted [] = 0
uncounted (asked b ∷ h) = uncounted h
uncounted (got p ∷ h) = length (ticks_of p)
uncounted (none ∷ h) = uncounted h
uncounted (ticked ∷ h) = uncounted h - 1
uncounted (halted ps ∷ h) = 0

-- the halts: how many pieces were got or dropped up to each, and how many ticks were counted
abbrev pub halts_of : PieceLog → NewestFirst (ℕ × ℕ)
halts_of [] = []
halts_of (halted ps ∷ h) = (length (ps ++ pieces_of h), counted h) ∷ halts_of h
halts_of (_ ∷ h) = halts_of h

-- whether a stop waited when it was asked last, and it has not halted since
abbrev pub saw_stop : PieceLog → Bool
saw_stop [] = false
saw_stop (asked b ∷ h) = b
saw_stop (halted ps ∷ h) = false
saw_stop (_ ∷ h) = saw_stop h

-- each tick of the pieces that were got is counted
abbrev pub IsCounted : PieceLog → Type 0
IsCounted h = uncounted h ≡ 0

-- the piece that was got last has a tick that is not counted
abbrev pub HasTick : PieceLog → Type 0
HasTick h = 0 < uncounted h

-- a stop waits for its halt
abbrev pub SawStop : PieceLog → Type 0
SawStop h = saw_stop h ≡ true

-- how many of some records are ticks
abbrev pub ticks_in : List Record → ℕ
ticks_in [] = 0
ticks_in (r ∷ rs) = one_if (is_tick r) + ticks_in rs

-- what is left of the records of the last of some pieces
abbrev pub IsEndOf : NewestFirst Piece → List Record → Type 0
IsEndOf [] end = end ≡ []
IsEndOf (p ∷ before) end = (front : List Record) × (records_of p ≡ front ++ end)

-- What is recorded of the pieces got: the records of each, in order. A halt cuts the records of the piece that was got last: what
-- is left of them is lost, and all before it stands, which has the ticks that were counted by then.
abbrev pub IsRecorded : PieceLog → List Record → Type 0
IsRecorded [] rs = rs ≡ []
IsRecorded (got p ∷ h) rs = (before : List Record) × IsRecorded h before × (rs ≡ before ++ records_of p)
IsRecorded (halted ps ∷ h) rs = (lost : List Record) × IsEndOf (got_since h) lost × IsRecorded h (rs ++ lost) × (ticks_in rs ≡ counted h)
IsRecorded (_ ∷ h) rs = IsRecorded h rs

-- a record was put; there was no room for it
pub data RecordEvent : Type 0 where
  put : Record → RecordEvent
  full : Record → RecordEvent

abbrev pub RecordLog : Type 0
RecordLog = NewestFirst RecordEvent

-- the records that were put, in order
abbrev pub records_put : RecordLog → List Record
records_put [] = []
records_put (put r ∷ k) = records_put k ++ r ∷ []
records_put (full r ∷ k) = records_put k

-- whether the last record put is the end
abbrev pub end_is_put : RecordLog → Bool
end_is_put [] = false
end_is_put (put r ∷ k) = is_end r
end_is_put (full r ∷ k) = end_is_put k
