-- The pieces of a run that are traced one after another, and what is recorded of each.
use Rattle.std.specs.Prelude.{◌≡◌, ◌+◌, ◌≤◌, ◌⊎◌, List, [], ◌∷◌, map}
use Rattle.units.specs.Lengths.{IsMove}
use Rattle.step_line.specs.declared.Segment.{Segment}
use Rattle.step_line.specs.declared.Head.{Head}
use Rattle.step_line.specs.declared.Piece.{Piece}
use Rattle.step_line.specs.declared.Piece.TheVariants as pieces
use Rattle.step_line.specs.declared.Record.{Record}
use Rattle.step_line.specs.declared.Record.TheVariants as kinds
use Rattle.step_line.specs.Counting.{events_of}
use Rattle.step_line.specs.Events.{events_after}
use Rattle.step_line.specs.Logs.{NewestFirst}
use Rattle.step_line.specs.Records.{IsHead, IsMark}

-- what is recorded of a segment before its events: its speed is the one at which it begins
abbrev pub head_of : Segment → Head
head_of s = record { line = s.line; n = s.n; w = s.w_in; cycles = s.cycles }

-- a segment's ticks are its events; a mark is one tick
abbrev pub ticks_of : Piece → List Record
ticks_of (pieces.Segment s) = map kinds.Event (events_after s.mv s.first s.n)
ticks_of (pieces.Mark m) = kinds.Mark m ∷ []
ticks_of pieces.End = []

-- a segment is recorded as its head and its events
abbrev pub records_of : Piece → List Record
records_of (pieces.Segment s) = kinds.Head (head_of s) ∷ map kinds.Event (events_after s.mv s.first s.n)
records_of (pieces.Mark m) = kinds.Mark m ∷ []
records_of pieces.End = kinds.End ∷ []

-- some events of a move, at least one, with a head that can be recorded
pub record IsTraceable (s : Segment) : Type 0 where
  pub mv : IsMove s.mv
  pub head : IsHead (head_of s)
  pub within : s.first + s.n ≤ events_of s.mv

-- a segment goes on from where another of the same line and move ends
pub record GoesOn (s t : Segment) : Type 0 where
  pub line : t.line ≡ s.line
  pub mv : t.mv ≡ s.mv
  pub first : t.first ≡ s.first + s.n

-- a segment begins its move, or goes on where the last of the pieces before it ends
abbrev pub JoinsOn : NewestFirst Piece → Segment → Type 0
JoinsOn [] t = t.first ≡ 0
JoinsOn (pieces.Segment s ∷ before) t = (t.first ≡ 0) ⊎ GoesOn s t
JoinsOn (pieces.Mark m ∷ before) t = t.first ≡ 0
JoinsOn (pieces.End ∷ before) t = t.first ≡ 0

-- a piece may follow those before it: its records can be recorded, and a segment joins on
abbrev pub ComesBehind : NewestFirst Piece → Piece → Type 0
ComesBehind before (pieces.Segment s) = IsTraceable s × JoinsOn before s
ComesBehind before (pieces.Mark m) = IsMark m
ComesBehind before pieces.End = Unit {0}
