-- The recorder: what it takes, holds and writes.
use Rattle.std.specs.Prelude.{◌≡◌, ℕ, zero, suc, ◌+◌, ◌≤◌, Bool, true, false, cond, ◌&&◌, nat_lt, pos, List, [], ◌∷◌, ◌++◌, replicate, codes, ◌⊎◌}
use Rattle.std.specs.List.{All, flat_map}
use Rattle.std.specs.Io.KnownBytes.{Appends}
use Rattle.outside.specs.Causes.{Rose, SinkState}
use Rattle.outside.specs.Writing.{Wrote}
use Rattle.outside.specs.declared.Turn.{Turn}
use Rattle.outside.specs.declared.Turn.TheVariants.{Did, Wait, Done}
use Rattle.outside.specs.declared.On.TheVariants as polls
use Rattle.text_writer.specs.Writers.{Writing, Writes, fresh, is_due, is_done, with_text}
use Rattle.step_line.specs.declared.Bits.{Bits}
use Rattle.step_line.specs.declared.Record.{Record}
use Rattle.step_line.specs.declared.Record.TheVariants as kinds
use Rattle.step_line.specs.Records.{IsRecord, is_end}
use Rattle.step_line.specs.Ending.{HasNoEnd, IsEnded}
use Rattle.step_record.specs.declared.forms.Form.{Form}
use Rattle.step_record.specs.declared.forms.Form.TheVariants.{One, Two}
use Rattle.step_record.specs.declared.held_lines.Hand.{Hand}
use Rattle.step_record.specs.Forms.{full_run, run_text, same_bits, line_text, lines_of, text_in}
use Rattle.step_record.specs.Taking.Event.{took, none}
use Rattle.step_record.specs.Taking.{Log, records}
use Rattle.step_record.specs.Texts.{event_text, record_text}

-- A recorder has a form, in form 2 equal events in hand that were taken last and have no line yet, and its writer: the text
-- before them that waits to be written. All of it is asked for once the end was taken.
pub record Recording : Type 0 where
  pub form : Form
  pub hand : Hand
  pub writer : Writing

-- what the next turn does where it does not write: take, or nothing
abbrev pub Takes : Recording → Type 0
Takes v = (is_due v.writer ≡ false) × (v.writer.asked ≡ false)

abbrev pub Rests : Recording → Type 0
Rests v = is_done v.writer ≡ true

-- ---- what is in hand

abbrev pub none_in_hand : Hand
none_in_hand = record { count = 0; bits = record { x = pos 0; y = pos 0; z = pos 0 } }

-- the line of so many equal events
abbrev pub events_text : ℕ → Bits → List ℕ
events_text zero b = []
events_text (suc zero) b = event_text b
events_text (suc (suc n)) b = run_text (suc (suc n)) b

abbrev pub hand_text : Hand → List ℕ
hand_text h = events_text h.count h.bits

abbrev pub hand_records : Hand → List Record
hand_records h = replicate h.count (kinds.Event h.bits)

-- an event that one line can stand for, with those in hand
abbrev pub goes_on : Hand → Bits → Bool
goes_on h b = same_bits h.bits b && nat_lt h.count full_run

-- ---- what a recorder makes of a record

abbrev pub is_event : Record → Bool
is_event (kinds.Head h) = false
is_event (kinds.Event b) = true
is_event (kinds.Mark m) = false
is_event kinds.End = false

-- its line waits behind the others, unless the sink has failed; in form 2 those in hand get their line before it
abbrev pub line_put : Form → Recording → Record → Recording
line_put One v r = record v { writer = with_text v.writer (record_text r) }
line_put Two v r = record v { hand = record v.hand { count = 0 }; writer = with_text v.writer (hand_text v.hand ++ record_text r) }

-- all is asked for behind the end
abbrev pub with_line : Form → Recording → Record → Recording
with_line form v r = let put = line_put form v r in record put { writer = record put.writer { asked = is_end r } }

-- an event comes into the hand, beside those that it goes on with; else those get their line
abbrev pub with_event : Recording → Bits → Recording
with_event v b = cond (goes_on v.hand b)
    (record v { hand = record v.hand { count = v.hand.count + 1 } })
    (record v { hand = record { count = 1; bits = b }; writer = with_text v.writer (hand_text v.hand) })

abbrev pub in_form_two : Recording → Record → Recording
in_form_two v (kinds.Head h) = with_line Two v (kinds.Head h)
in_form_two v (kinds.Event b) = with_event v b
in_form_two v (kinds.Mark m) = with_line Two v (kinds.Mark m)
in_form_two v kinds.End = with_line Two v kinds.End

abbrev pub in_form : Form → Recording → Record → Recording
in_form One v r = with_line One v r
in_form Two v r = in_form_two v r

abbrev pub with_record : Recording → Record → Recording
with_record v r = in_form v.form v r

-- nothing was taken: in form 2 the version waits
abbrev pub begun_in : Form → Writing
begun_in One = fresh
begun_in Two = with_text fresh (codes "V 2\n")

abbrev pub fresh_in : Form → Recording
fresh_in form = record { form = form; hand = none_in_hand; writer = begun_in form }

-- ---- what it says of its sink

-- What was put of the text of records: in form 1 all of it; in form 2 what stands before the events in hand, whichever records
-- follow.
abbrev pub HasPut : Form → Hand → List Record → List ℕ → Type 0
HasPut One hand rs put = (hand.count ≡ 0) × (text_in One rs ≡ put)
HasPut Two hand rs put = (more : List Record) → text_in Two (rs ++ more) ≡ put ++ flat_map line_text (lines_of (hand_records hand ++ more))

-- the text that waits, with the line of what is in hand
abbrev pub waits : Recording → List ℕ
waits v = (with_text v.writer (hand_text v.hand)).waiting

-- What a recorder's state says of the records that it took, and of what its sink was given since a moment: the text of
-- the records in its form, as far as it does not wait.
pub record RecorderFits (form : Form) (v : Recording) (log : Log) (before now : SinkState) : Type 0 where
  pub form_is : v.form ≡ form
  pub each : All IsRecord (records log)
  pub going : v.writer.asked ≡ false → HasNoEnd (records log)
  pub over : v.writer.asked ≡ true → IsEnded (records log)
  pub left : v.writer.asked ≡ true → v.hand.count ≡ 0
  pub room : v.hand.count ≤ full_run
  pub put : List ℕ
  pub has_put : HasPut form v.hand (records log) put
  pub wrote : Wrote before now v.writer.failed v.writer.waiting put

-- from one log to the next a recorder's state says as much of its sink, whatever the moment
pub record RecorderFitsOn (v w : Recording) (log next : Log) (now later : SinkState) : Type 0 where
  pub on : (form : Form) (before : SinkState) → RecorderFits form v log before now → RecorderFits form w next before later

-- what a turn adds to the log, by what it answers: a write and the rest add nothing, and a poll adds what it found
abbrev pub RecorderTurned : Turn → Recording → Recording → Log → Log → Type 0
RecorderTurned Did v w log next = (Writes v.writer × (next ≡ log)) ⊎ (Takes v × ((r : Record) × (w ≡ with_record v r) × (next ≡ took r ∷ log)))
RecorderTurned (Wait on) v w log next = (on ≡ polls.Records) × Takes v × (next ≡ none ∷ log)
RecorderTurned Done v w log next = Rests v × (next ≡ log)

-- a sink has the text of all records, the last line that of the end
pub record HasAll (form : Form) (log : Log) (before now : SinkState) : Type 0 where
  pub ended : IsEnded (records log)
  pub last : (front : List ℕ) × (text_in form (records log) ≡ front ++ codes "E\n")
  pub held : Appends before.held now.held (text_in form (records log))
  pub same : now.faults ≡ before.faults

-- a sink has a front of the text, and the rest waits
pub record HasFront (form : Form) (log : Log) (waiting : List ℕ) (before now : SinkState) : Type 0 where
  pub front : List ℕ
  pub whole : text_in form (records log) ≡ front ++ waiting
  pub held : Appends before.held now.held front
  pub same : now.faults ≡ before.faults

-- a sink has a front of the text, and its count of faults rose
pub record HasFailed (form : Form) (log : Log) (before now : SinkState) : Type 0 where
  pub front : List ℕ
  pub back : List ℕ
  pub whole : text_in form (records log) ≡ front ++ back
  pub held : Appends before.held now.held front
  pub rose : Rose before.faults now.faults
