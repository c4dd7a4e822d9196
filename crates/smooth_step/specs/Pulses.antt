-- What a pulse that hands out subticks has in hand.
use Rattle.std.specs.Prelude.{◌≡◌, ℕ, ◌+◌, Bool, ◌==◌, if◌then◌else◌, List, [], ◌∷◌, length, Option}
use Rattle.step_line.specs.declared.Bits.{Bits}
use Rattle.step_line.specs.declared.Piece.{Piece}
use Rattle.step_line.specs.declared.Piece.TheVariants as pieces
use Rattle.step_line.specs.declared.Record.{Record}
use Rattle.step_line.specs.Tracing.{Trace}
use Rattle.step_line.specs.Logs.{NewestFirst}
use Rattle.pulse_engine.specs.Logs.{PieceLog, RecordLog, got_since, halts_of}
use Rattle.pulse_engine.specs.Steps.{Pulsing, pulsing}
use Rattle.pulse_engine.specs.Turns.{PulseFits}
use Rattle.smooth_step.specs.Subticks.{level_of, subticks_of}
use Rattle.smooth_step.specs.Counts.{AreLeftAt, LosesNone, subticks_in}

-- what callers see of it: the record that is put next, which is made already; the move that is traced, with the number of its
-- events that are made, and so have their subticks handed out; how many of its events are to be made; whether a tick was put and
-- is not counted; whether the end was put; and the level of the events to be made
pub record SmoothPulsing : Type 0 where
  pub hand : Option Record
  pub traced : Trace
  pub left : ℕ
  pub owes : Bool
  pub over : Bool
  pub level : ℕ

-- what callers see of any pulse
abbrev pub pulse_of : SmoothPulsing → Pulsing
pulse_of p = pulsing p.hand p.traced p.left p.owes p.over

-- the level is that of the segment that was got last, if that is the last piece since a halt
abbrev pub HasLevel : NewestFirst Piece → ℕ → Type 0
HasLevel [] level = Unit {0}
HasLevel (pieces.Segment s ∷ before) level = level ≡ level_of s.cycles
HasLevel (pieces.Mark m ∷ before) level = Unit {0}
HasLevel (pieces.End ∷ before) level = Unit {0}

-- a pulse that has done this; no event is lost while it was not halted
pub record SmoothFits (p : SmoothPulsing) (h : PieceLog) (k : RecordLog) : Type 0 where
  pub pulse : PulseFits (pulse_of p) h k
  pub level : HasLevel (got_since h) p.level
  pub left : AreLeftAt p.hand p.left p.level k
  pub whole : halts_of h ≡ [] → LosesNone p.hand k

-- the move that is traced at the beginning of a piece, and the level there
abbrev pub begun : Trace → Piece → Trace
begun t (pieces.Segment s) = record { mv = s.mv; done = s.first }
begun t (pieces.Mark m) = t
begun t pieces.End = t

abbrev pub level_behind : ℕ → Piece → ℕ
level_behind level (pieces.Segment s) = level_of s.cycles
level_behind level (pieces.Mark m) = level
level_behind level pieces.End = level

-- the subticks of the event that is made while a move is traced from one place to another, if one is
abbrev pub made_between : (level : ℕ) → Trace → Trace → List Bits
made_between level t u = if u.done == t.done + 1 then subticks_of t.mv level (t.done + 1) else []

-- what pins are handed while a pulse comes from one state to another in a turn
abbrev pub handed : SmoothPulsing → SmoothPulsing → List Bits
handed p q = made_between p.level p.traced q.traced

-- the subticks that were handed out are those of the events that were tried since
abbrev pub AreCounted : SmoothPulsing → SmoothPulsing → RecordLog → RecordLog → Type 0
AreCounted p q k k' = subticks_in k' ≡ subticks_in k + length (handed p q)
