-- Which speeds of recorded heads are legal.
--
-- A stretch is the heads between two marks, or between a mark and either end of the records. `Told` has heads with the
-- move that their events are of, and with how many of that move's events come before them.
use Rattle.std.specs.Prelude.{◌≡◌, ℕ, ◌+◌, ◌≤◌, ◌⊎◌, nat_eq, cond, List, [], ◌∷◌, ◌++◌, map, Some, None}
use Rattle.std.specs.List.{flat_map, AllByRecursion}
use Rattle.std.specs.declared.option.Option.{Option}
use Rattle.step_line.specs.declared.Mark.{Mark as AnyMark}
use Rattle.step_line.specs.declared.Mark.TheVariants.{Dwell, Spindle, Coolant, Cut, Reset}
use Rattle.step_line.specs.declared.Record.{Record}
use Rattle.step_line.specs.declared.Record.TheVariants as kinds
use Rattle.step_line.specs.Counting.{events_of}
use Rattle.step_line.specs.Events.{events_after}
use Rattle.profile.specs.Profiles.{distance}
use Rattle.step_line.specs.declared.planned_move.PlannedMove.{PlannedMove}
use Rattle.legal_heads.specs.declared.ToldHead.{ToldHead}
use Rattle.legal_heads.specs.declared.Told.{Told}
use Rattle.legal_heads.specs.declared.Told.TheVariants.{Head, Mark, End}
use Rattle.legal_heads.specs.Moves.{change_over, fastest, fastest_joint}
use Rattle.step_line.specs.Asking.{IsPlannedMove}

-- how much the squared speed may change over a head's events
abbrev pub change_of : ToldHead → ℕ
change_of h = change_over h.planned h.head.n

-- b goes on with the move of a, where a ends
pub record StaysInMove (a b : ToldHead) : Type 0 where
  pub planned : b.planned ≡ a.planned
  pub first : b.first ≡ a.first + a.head.n

-- a head's events are the last of its move
abbrev pub EndsMove : ToldHead → Type 0
EndsMove h = h.first + h.head.n ≡ events_of h.planned.mv

-- b begins a later move once that of a is done, no faster than the two moves may be joined
pub record BeginsLater (a b : ToldHead) : Type 0 where
  pub done : EndsMove a
  pub first : b.first ≡ 0
  pub joint : b.head.w ≤ fastest_joint a.planned b.planned

-- b comes next after a in a stretch
pub record IsLegalChange (a b : ToldHead) : Type 0 where
  pub change : distance a.head.w b.head.w ≤ change_of a
  pub move : StaysInMove a b ⊎ BeginsLater a b

-- the first head of a stretch begins a move at rest, each other one comes after the one before it
abbrev pub MayCome : Option ToldHead → ToldHead → Type 0
MayCome None h = (h.first ≡ 0) × (h.head.w ≡ 0)
MayCome (Some a) h = IsLegalChange a h

-- a stretch may end if the machine can stop over the events of its last head
abbrev pub MayStop : Option ToldHead → Type 0
MayStop None = Unit {0}
MayStop (Some a) = a.head.w ≤ change_of a

-- no move is left before its end
abbrev pub IsDone : Option ToldHead → Type 0
IsDone None = Unit {0}
IsDone (Some a) = EndsMove a

-- A stretch may end with a mark if the machine can stop and the latest move is done. A cut may break a move off, and a
-- reset ends a stretch at any speed.
abbrev pub MayMark : Option ToldHead → AnyMark → Type 0
MayMark before (Dwell ms) = MayStop before × IsDone before
MayMark before (Spindle code speed) = MayStop before × IsDone before
MayMark before (Coolant on) = MayStop before × IsDone before
MayMark before (Cut line) = MayStop before
MayMark before (Reset line) = Unit {0}

-- what is told comes next after the latest head of a stretch, or at a stretch's beginning
abbrev pub ComesNext : Option ToldHead → Told → Type 0
ComesNext before (Head h) = MayCome before h × (h.head.w ≤ fastest h.planned)
ComesNext before (Mark m) = MayMark before m
ComesNext before End = MayStop before × IsDone before

-- the latest head of the stretch after it
abbrev pub latest_behind : Told → Option ToldHead
latest_behind (Head h) = Some h
latest_behind (Mark m) = None
latest_behind End = None

-- all that is told comes next after what is told before it
abbrev pub AreLegalBehind : Option ToldHead → List Told → Type 0
AreLegalBehind before [] = Unit {0}
AreLegalBehind before (t ∷ rest) = ComesNext before t × AreLegalBehind (latest_behind t) rest

-- all that is told is legal; if no end is told yet, the last stretch is still open
abbrev pub AreLegal : List Told → Type 0
AreLegal told = AreLegalBehind None told

-- a head's move may be planned
abbrev pub IsOfPlannedMove : Told → Type 0
IsOfPlannedMove (Head h) = IsPlannedMove h.planned
IsOfPlannedMove (Mark m) = Unit {0}
IsOfPlannedMove End = Unit {0}

-- a head has some events of its move, and the move's line
pub record IsOfItsMove (h : ToldHead) : Type 0 where
  pub line : h.head.line ≡ h.planned.line
  pub some : 1 ≤ h.head.n
  pub within : h.first + h.head.n ≤ events_of h.planned.mv

abbrev pub IsToldRight : Told → Type 0
IsToldRight (Head h) = IsOfItsMove h
IsToldRight (Mark m) = Unit {0}
IsToldRight End = Unit {0}

-- what is recorded of what is told: a head comes before its events
abbrev pub told_records : Told → List Record
told_records (Head h) = kinds.Head h.head ∷ map kinds.Event (events_after h.planned.mv h.first h.head.n)
told_records (Mark m) = kinds.Mark m ∷ []
told_records End = kinds.End ∷ []

-- the move that a head begins
abbrev pub begun_by : Told → List PlannedMove
begun_by (Head h) = cond (nat_eq h.first 0) (h.planned ∷ []) []
begun_by (Mark m) = []
begun_by End = []

-- The heads of some records tell events of these moves, move by move and none left out, at legal speeds. They need not
-- tell them to the end: if no end is recorded, the last stretch is still open.
pub record HasLegalHeads (moves : List PlannedMove) (records : List Record) : Type 0 where
  pub told : List Told
  pub recorded : records ≡ flat_map told_records told
  pub each : AllByRecursion IsToldRight told
  pub rest : List PlannedMove
  pub in_order : moves ≡ flat_map begun_by told ++ rest
  pub legal : AreLegal told
