-- What a pulse's state says of what it has done, and what a turn does.
use Rattle.std.specs.Prelude.{◌≡◌, ◌+◌, ◌⊎◌, Bool, true, false, [], ◌∷◌, ◌++◌}
use Rattle.units.specs.Truths.{one_if}
use Rattle.outside.specs.declared.Turn.{Turn}
use Rattle.outside.specs.declared.Turn.TheVariants.{Did, Wait, Done}
use Rattle.outside.specs.declared.On.TheVariants as on
use Rattle.step_line.specs.declared.Piece.{Piece}
use Rattle.step_line.specs.declared.Piece.TheVariants as pieces
use Rattle.step_line.specs.declared.Record.{Record}
use Rattle.step_line.specs.Tracing.{Trace}
use Rattle.step_line.specs.Logs.{NewestFirst}
use Rattle.step_line.specs.Ordering.{InTurn}
use Rattle.pulse_engine.specs.Logs.{PieceLog, RecordLog, got_since, counted, uncounted, records_put, ticks_in, end_is_put, IsEndOf, IsRecorded}
use Rattle.pulse_engine.specs.Logs.PieceEvent.{asked, got, none, ticked, halted}
use Rattle.pulse_engine.specs.Logs.RecordEvent.{put, full}
use Rattle.pulse_engine.specs.Steps.{Pulsing}

-- a move was traced up to the end of the segment that was got last, if that is the last piece
abbrev pub Reaches : NewestFirst Piece → Trace → Type 0
Reaches [] t = Unit {0}
Reaches (pieces.Segment s ∷ before) t = t ≡ record { mv = s.mv; done = s.first + s.n }
Reaches (pieces.Mark m ∷ before) t = Unit {0}
Reaches (pieces.End ∷ before) t = Unit {0}

-- A pulse that has done this: the pieces got since the last halt came in turn; what is recorded of the pieces got is what was put and
-- what waits, which is of the last of them; the ticks put are the ticks counted, or one more, and the others are in what waits.
pub record PulseFits (p : Pulsing) (h : PieceLog) (k : RecordLog) : Type 0 where
  pub turns : InTurn (got_since h)
  pub records : IsRecorded h (records_put k ++ p.waiting)
  pub waits : IsEndOf (got_since h) p.waiting
  pub ticks : ticks_in (records_put k) ≡ counted h + one_if p.owes
  pub left : uncounted h ≡ ticks_in p.waiting + one_if p.owes
  pub reach : Reaches (got_since h) p.reached
  pub end : p.over ≡ end_is_put k
  pub last : p.over ≡ true → (p.waiting ≡ []) × (p.owes ≡ false) × ((before : NewestFirst Piece) × (got_since h ≡ pieces.End ∷ before))

-- what a turn adds that was shown no stop, by what it answers: it gets a piece, or puts a record
abbrev pub PulseWorked : Turn → PieceLog → RecordLog → PieceLog → RecordLog → Type 0
PulseWorked Did h k h' k' = ((p : Piece) × (h' ≡ got p ∷ h) × (k' ≡ k)) ⊎ ((r : Record) × (h' ≡ h) × (k' ≡ put r ∷ k))
PulseWorked (Wait on.Piece) h k h' k' = (h' ≡ none ∷ h) × (k' ≡ k)
PulseWorked (Wait on.RecordRoom) h k h' k' = (r : Record) × (h' ≡ h) × (k' ≡ full r ∷ k)
PulseWorked other h k h' k' = ⊥

-- What a turn adds to what was done, by what it answers. Until it is done it first asks for a stop. Where none waits it may get a
-- piece or put a record; else it counts a tick that was put, or halts, where each tick that was put is counted.
abbrev pub PulseTurned : Turn → PieceLog → RecordLog → PieceLog → RecordLog → Type 0
PulseTurned Did h k h' k' =
    PulseWorked Did (asked false ∷ h) k h' k'
    ⊎ (((waits : Bool) × (h' ≡ ticked ∷ (asked waits ∷ h)) × (k' ≡ k))
    ⊎ ((dropped : NewestFirst Piece) × (h' ≡ halted dropped ∷ (asked true ∷ h)) × (k' ≡ k) × (ticks_in (records_put k) ≡ counted h)))
PulseTurned (Wait on) h k h' k' = PulseWorked (Wait on) (asked false ∷ h) k h' k'
PulseTurned Done h k h' k' = (h' ≡ h) × (k' ≡ k) × (end_is_put k ≡ true)
