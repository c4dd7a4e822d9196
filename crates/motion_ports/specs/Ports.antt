-- What the ports of pulse and recorder stand for.
use Rattle.std.specs.Prelude.{◌≡◌, ℕ, ◌+◌, ◌<◌, ◌↔◌, true, [], ◌∷◌, length, map}
use Rattle.atomic_table.specs.Seated.{TableId}
use Rattle.rtrb.specs.declared.producer.Producer.{Producer}
use Rattle.rtrb.specs.declared.consumer.Consumer.{Consumer}
use Rattle.rtrb.specs.Ring.{sent, received, known_free, known_items, SameProducer, SameConsumer}
use Rattle.step_line.specs.declared.Record.{Record}
use Rattle.motion_ring.specs.declared.ends.SegIn.{SegIn}
use Rattle.motion_ring.specs.declared.lists.Halt.{Halt}
use Rattle.motion_ring.specs.Ends.{ring_of_in, taken_by, passed_by, halted_by, shown_to, head_loads_of, asked_by, stop_loads_of, counted_by, left_in}
use Rattle.pulse_engine.specs.Steps.{Pulsing}
use Rattle.pulse_engine.specs.Turns.{PulseFits}
use Rattle.pulse_engine.specs.Logs.{PieceLog, RecordLog, pieces_of, got_since, counted, uncounted, halts_of, saw_stop, records_put}
use Rattle.pulse_engine.specs.Logs.PieceEvent.{asked, got as got_piece, none as no_piece, ticked, halted}
use Rattle.pulse_engine.specs.Logs.RecordEvent.{put as put_record, full}
use Rattle.step_record.specs.Taking as taking
use Rattle.step_record.specs.Taking.Event.{took, none as no_record}

-- how often it was looked for a piece
abbrev pub looks_in : PieceLog → ℕ
looks_in [] = 0
looks_in (got_piece p ∷ h) = looks_in h + 1
looks_in (no_piece ∷ h) = looks_in h + 1
looks_in (_ ∷ h) = looks_in h

-- how often it was asked for a stop
abbrev pub asks_in : PieceLog → ℕ
asks_in [] = 0
asks_in (asked b ∷ h) = asks_in h + 1
asks_in (_ ∷ h) = asks_in h

-- none is got only where the head, as it was loaded last, showed that all are got
abbrev pub SawPieces : PieceLog → (shown passed : ℕ) → Type 0
SawPieces [] shown passed = Unit {0}
SawPieces (asked b ∷ h) shown passed = Unit {0}
SawPieces (got_piece p ∷ h) shown passed = Unit {0}
SawPieces (no_piece ∷ h) shown passed = shown ≡ passed
SawPieces (ticked ∷ h) shown passed = Unit {0}
SawPieces (halted ps ∷ h) shown passed = Unit {0}

-- a halt, by its numbers
abbrev pub numbers_of : Halt → ℕ × ℕ
numbers_of h = (h.pieces, h.done)

-- An end of this ring got or dropped these pieces, counted their ticks, and halted there. It has loaded the head once each time that
-- it looked for a piece, and the stop word once each time that it asked for a stop; a stop waits exactly where that, as it was loaded
-- last, is above the halt that was stored last.
pub record HasGot (end : SegIn) (ring : TableId) (log : PieceLog) : Type 0 where
  pub ring_is : ring_of_in end ≡ ring
  pub passed_are : passed_by end ≡ pieces_of log
  pub fresh_are : (taken_by end).fresh ≡ got_since log
  pub counted_are : counted_by end ≡ counted log
  pub left_are : left_in end ≡ uncounted log
  pub halts_are : map numbers_of (taken_by end).halts ≡ halts_of log
  pub looks : head_loads_of end ≡ looks_in log
  pub saw_pieces : SawPieces log (shown_to end) (length (passed_by end))
  pub asks : stop_loads_of end ≡ asks_in log
  pub saw_stop_is : (saw_stop log ≡ true) ↔ (halted_by end < asked_by end)

-- a record is handed back only where the ring showed no room
abbrev pub SawRoom : RecordLog → (free : ℕ) → Type 0
SawRoom [] free = Unit {0}
SawRoom (put_record r ∷ k) free = Unit {0}
SawRoom (full r ∷ k) free = free ≡ 0

-- an end of the ring that another is of sent these records
abbrev pub HasPut : {A P : Type 0} → Producer Record A P → Producer Record A P → RecordLog → Type 0
HasPut end ring log = SameProducer ring end × (sent end ≡ records_put log) × SawRoom log (known_free end)

-- none is taken only where the ring showed no record
abbrev pub SawRecords : taking.Log → (known : ℕ) → Type 0
SawRecords [] known = Unit {0}
SawRecords (took r ∷ log) known = Unit {0}
SawRecords (no_record ∷ log) known = known ≡ 0

-- an end of the ring that another is of received these records
abbrev pub HasTaken : {A P : Type 0} → Consumer Record A P → Consumer Record A P → taking.Log → Type 0
HasTaken end ring log = SameConsumer ring end × (received end ≡ taking.records log) × SawRecords log (length (known_items end))

-- a pulse has done at these ends what its logs tell
pub record IsAtWork {A P : Type 0} (pulse : Pulsing) (pieces : SegIn) (records : Producer Record A P) : Type 0 where
  pub got : PieceLog
  pub put : RecordLog
  pub ring : TableId
  pub start : Producer Record A P
  pub pieces_are : HasGot pieces ring got
  pub records_are : HasPut records start put
  pub fits : PulseFits pulse got put
