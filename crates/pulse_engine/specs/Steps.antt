-- What a pulse has in hand.
use Rattle.std.specs.Prelude.{◌≡◌, ℕ, ◌+◌, ◌≤◌, ◌⊎◌, Bool, true, false, List, [], ◌++◌, map, Option, Some, None}
use Rattle.std.specs.Option.{option_to_list}
use Rattle.step_line.specs.declared.Piece.{Piece}
use Rattle.step_line.specs.declared.Piece.TheVariants as pieces
use Rattle.step_line.specs.declared.Record.{Record}
use Rattle.step_line.specs.declared.Record.TheVariants as kinds
use Rattle.step_line.specs.Counting.{events_of}
use Rattle.step_line.specs.Events.{events_after, IsEvent}
use Rattle.step_line.specs.Pieces.{IsTraceable}
use Rattle.step_line.specs.Records.{IsHead, IsMark}
use Rattle.step_line.specs.Tracing.{Trace}

-- what callers see of a pulse: the records of the piece in hand that are still to be put, in order; whether a tick was
-- put and is not counted; whether the end was put; and the move that was traced last, with the number of its events
-- that are put once nothing waits
pub record Pulsing : Type 0 where
  pub waiting : List Record
  pub owes : Bool
  pub over : Bool
  pub reached : Trace

-- the next n events of a move that is traced
abbrev pub coming : Trace → ℕ → List Record
coming t n = map kinds.Event (events_after t.mv t.done n)

-- the next n events are done
abbrev pub gone : Trace → ℕ → Trace
gone t n = record { mv = t.mv; done = t.done + n }

abbrev pub pulsing : Option Record → Trace → ℕ → Bool → Bool → Pulsing
pulsing hand t n owes over = record { waiting = option_to_list hand ++ coming t n; owes = owes; over = over; reached = gone t n }

-- a record may come before n events of a segment: a head, or an event, which has a line; any other comes before none
abbrev pub IsFirst : Record → ℕ → Type 0
IsFirst (kinds.Head h) n = IsHead h
IsFirst (kinds.Event b) n = IsEvent b
IsFirst (kinds.Mark m) n = IsMark m × (n ≡ 0)
IsFirst kinds.End n = n ≡ 0

abbrev pub IsHand : Option Record → ℕ → Type 0
IsHand None n = Unit {0}
IsHand (Some r) n = IsFirst r n

-- between two pieces: the next turn gets one, or finds none, or halts
pub record AwaitsPiece (p : Pulsing) : Type 0 where
  pub nothing_left : p.waiting ≡ []
  pub counted : p.owes ≡ false
  pub going : p.over ≡ false

-- what the fields of a pulse keep
pub record KeepsPulse (hand : Option Record) (t : Trace) (n : ℕ) (owes over : Bool) : Type 0 where
  pub first : IsHand hand n
  pub within : t.done + n ≤ events_of t.mv
  pub last : over ≡ true → (hand ≡ None) × (n ≡ 0) × (owes ≡ false)

-- a segment may be traced that begins its move, or goes on from here
abbrev pub MayBegin : Trace → Piece → Type 0
MayBegin t (pieces.Segment s) = IsTraceable s × ((s.first ≡ 0) ⊎ (t ≡ record { mv = s.mv; done = s.first }))
MayBegin t (pieces.Mark m) = IsMark m
MayBegin t pieces.End = Unit {0}

-- what is traced once a piece is recorded
abbrev pub reached_after : Trace → Piece → Trace
reached_after t (pieces.Segment s) = record { mv = s.mv; done = s.first + s.n }
reached_after t (pieces.Mark m) = t
reached_after t pieces.End = t
