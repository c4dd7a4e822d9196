-- The lines of step texts, and the text of a list of records in each form.
use Rattle.std.specs.Prelude.{◌≡◌, ℕ, zero, suc, ◌+◌, ◌/◌, ◌%◌, ◌≤◌, Bool, false, cond, ◌&&◌, List, [], ◌∷◌, ◌++◌, length, drop, replicate, codes, decimal}
use Rattle.std.specs.List.{flat_map}
use Rattle.std.specs.Ordering.{int_eq}
use Rattle.step_line.specs.declared.Bits.{Bits}
use Rattle.step_line.specs.declared.Record.{Record}
use Rattle.step_line.specs.declared.Record.TheVariants as kinds
use Rattle.step_line.specs.Events.{IsEvent}
use Rattle.step_line.specs.Records.{IsRecord}
use Rattle.step_record.specs.declared.forms.Form.{Form}
use Rattle.step_record.specs.declared.forms.Form.TheVariants.{One, Two}
use Rattle.step_record.specs.declared.forms.Line.{Line}
use Rattle.step_record.specs.declared.forms.Line.TheVariants as lines
use Rattle.step_record.specs.Texts.{event_text, record_text}

-- ---- lines

-- the most events that one line stands for
abbrev pub full_run : ℕ
full_run = 4294967295

-- so many equal events
unfoldable pub run_text : ℕ → Bits → List ℕ
run_text n b = codes "R " ++ decimal n ++ codes " " ++ event_text b

abbrev pub line_text : Line → List ℕ
line_text (lines.One r) = record_text r
line_text (lines.Run n b) = run_text n b
line_text lines.Version = codes "V 2\n"

-- a line that may stand at a place of a text: a run is one of two events at least, and the version stands at the beginning
abbrev pub IsLine : Line → ℕ → Type 0
IsLine (lines.One r) at = IsRecord r
IsLine (lines.Run n b) at = (2 ≤ n) × (n ≤ full_run) × IsEvent b
IsLine lines.Version at = at ≡ 0

-- a line stands in a text from one place to another
pub record StandsFrom (l : Line) (text : List ℕ) (at end : ℕ) : Type 0 where
  pub is : IsLine l at
  pub line : drop at text ≡ line_text l ++ drop end text
  pub place : end ≡ at + length (line_text l)

-- the records that a line stands for
abbrev pub records_of : Line → List Record
records_of (lines.One r) = r ∷ []
records_of (lines.Run n b) = replicate n (kinds.Event b)
records_of lines.Version = []

-- ---- runs

-- so many equal records that stand together
pub record Run : Type 0 where
  pub count : ℕ
  pub of : Record

abbrev pub same_bits : Bits → Bits → Bool
same_bits a b = int_eq a.x b.x && int_eq a.y b.y && int_eq a.z b.z

abbrev pub is_event_of : Bits → Record → Bool
is_event_of b (kinds.Head h) = false
is_event_of b (kinds.Event c) = same_bits b c
is_event_of b (kinds.Mark m) = false
is_event_of b kinds.End = false

-- equal events stand together; no other records do
abbrev pub stand_together : Record → Record → Bool
stand_together (kinds.Head h) s = false
stand_together (kinds.Event b) s = is_event_of b s
stand_together (kinds.Mark m) s = false
stand_together kinds.End s = false

-- a record in front of others
abbrev pub in_front : Record → List Run → List Run
in_front r [] = record { count = 1; of = r } ∷ []
in_front r (first ∷ later) = cond (stand_together r first.of) (record { count = first.count + 1; of = r } ∷ later) (record { count = 1; of = r } ∷ first ∷ later)

-- the runs of a list of records, in order, each as long as it can be
unfoldable pub runs : List Record → List Run
runs [] = []
runs (r ∷ rs) = in_front r (runs rs)

-- the lines of fewer equal events than more than one line would need
abbrev pub lines_of_few : ℕ → Bits → List Line
lines_of_few zero b = []
lines_of_few (suc zero) b = lines.One (kinds.Event b) ∷ []
lines_of_few (suc (suc n)) b = lines.Run (suc (suc n)) b ∷ []

-- the lines of a run of events: full ones, and a rest
abbrev pub lines_of_events : ℕ → Bits → List Line
lines_of_events n b = replicate (n / full_run) (lines.Run full_run b) ++ lines_of_few (n % full_run) b

abbrev pub lines_by : ℕ → Record → List Line
lines_by n (kinds.Head h) = lines.One (kinds.Head h) ∷ []
lines_by n (kinds.Event b) = lines_of_events n b
lines_by n (kinds.Mark m) = lines.One (kinds.Mark m) ∷ []
lines_by n kinds.End = lines.One kinds.End ∷ []

abbrev pub lines_of_run : Run → List Line
lines_of_run run = lines_by run.count run.of

-- the lines of records in form 2, behind the version
unfoldable pub lines_of : List Record → List Line
lines_of rs = flat_map lines_of_run (runs rs)

-- ---- texts

-- in form 1 each record has its line; in form 2 the version comes first, and then the lines of form 2
abbrev pub text_in : Form → List Record → List ℕ
text_in One rs = flat_map record_text rs
text_in Two rs = codes "V 2\n" ++ flat_map line_text (lines_of rs)
