-- A job, read line by line.
use Rattle.std.specs.Prelude.{◌≡◌, ◌<◌, ◌≤◌, ℕ, ◌+◌, ◌-◌, Bool, true, false, cond, List, [], ◌∷◌, take, length, nat_lt, Some}
use Rattle.std.specs.Io.KnownBytes.{Consumes, Keeps}
use Rattle.std.specs.List.{sum_by}
use Rattle.outside.specs.Causes.{Rose, SourceState}
use Rattle.gcode_words.specs.Comments.{comment_after}
use Rattle.run_rules.specs.Lines.{CutsInto, lines_of, whole_lines}
use Rattle.run_rules.specs.Readings.{largest_job}
use Rattle.audit_rules.specs.Scanned.{Scanned, holds_by, onto_lines, up_to_long, open_line}
use Rattle.audit_readers.specs.JobLines.{SeenLine, HasCome}
use Rattle.audit_readers.specs.Windows.{Window, ahead, KnowsEnd}
use Rattle.audit_readers.specs.declared.holds.Holds.{Holds}
use Rattle.audit_readers.specs.declared.jobs.Next.{Next}
use Rattle.audit_readers.specs.declared.jobs.Next.TheVariants.{Byte, End, TooLarge}

-- ---- what is left of a job

-- what is scanned of a text that stands behind so many bytes of its job
abbrev pub scanned_behind : ℕ → List ℕ → Scanned
scanned_behind place text =
    cond (nat_lt (largest_job - place) (length text))
    (up_to_long (whole_lines (take (largest_job - place) text)) (open_line (take (largest_job - place) text))) (up_to_long (lines_of text) [])

-- its lines up to the largest job's end, whether or not they are sent
abbrev pub lines_behind : ℕ → List ℕ → List (List ℕ)
lines_behind place text = lines_of (take (largest_job - place) text)

-- ---- a reader of it

-- the window on it, the place behind what was read, in bytes of the job, and what has come of the line
pub record JobRead : Type 0 where
  pub window : Window
  pub place : ℕ
  pub line : SeenLine

-- nothing is read but what waits
pub record WaitsOn (old now : JobRead) (before after : SourceState) : Type 0 where
  pub kept : Keeps (ahead old.window before) (ahead now.window after)
  pub known : KnowsEnd now.window after
  pub place : now.place ≡ old.place
  pub line : now.line ≡ old.line

-- ---- its bytes

-- the next byte was taken
pub record TakesByte (old now : JobRead) (before after : SourceState) (byte : ℕ) : Type 0 where
  pub text : Consumes (ahead old.window before) (ahead now.window after) (byte ∷ [])
  pub known : KnowsEnd now.window after
  pub place : now.place ≡ old.place + 1
  pub room : old.place < largest_job
  pub line : now.line ≡ old.line
  pub same : after.faults ≡ before.faults

-- nothing follows
pub record IsOver (old now : JobRead) (before after : SourceState) : Type 0 where
  pub waits : WaitsOn old now before after
  pub none : (text : List ℕ) → ahead now.window after ≡ Some text → text ≡ []
  pub same : after.faults ≡ before.faults

-- a byte follows that is one too many for a job
pub record IsTooLarge (old now : JobRead) (before after : SourceState) : Type 0 where
  pub waits : WaitsOn old now before after
  pub full : now.place ≡ largest_job
  pub some : (text : List ℕ) → ahead now.window after ≡ Some text → (byte : ℕ) × (more : List ℕ) × (text ≡ byte ∷ more)
  pub same : after.faults ≡ before.faults

abbrev pub GoesOnBy : JobRead → JobRead → SourceState → SourceState → Next → Type 0
GoesOnBy old now before after (Byte byte) = TakesByte old now before after byte
GoesOnBy old now before after End = IsOver old now before after
GoesOnBy old now before after TooLarge = IsTooLarge old now before after

-- a read failed
pub record FailsToGoOn (old now : JobRead) (before after : SourceState) : Type 0 where
  pub waits : WaitsOn old now before after
  pub rose : Rose before.faults after.faults

-- ---- its lines

-- of what is left, a line and the rest
pub record Splits (old now : JobRead) (after : SourceState) (line text : List ℕ) : Type 0 where
  pub more : List ℕ
  pub left : ahead now.window after ≡ Some more
  pub scanned : scanned_behind old.place text ≡ onto_lines line (scanned_behind now.place more)
  pub lines : lines_behind old.place text ≡ line ∷ lines_behind now.place more

-- a line was read that is sent
pub record ReadsSentLine (old now : JobRead) (before after : SourceState) : Type 0 where
  pub line : List ℕ
  pub come : HasCome line now.line
  pub next : (text : List ℕ) → ahead old.window before ≡ Some text → Splits old now after line text
  pub known : KnowsEnd now.window after
  pub room : now.place ≤ largest_job
  pub same : after.faults ≡ before.faults

-- no line is sent any more, and this was scanned besides
pub record ReadsLast (old now : JobRead) (before after : SourceState) : Type 0 where
  pub rest : List ℕ
  pub come : HasCome rest now.line
  pub last : (text : List ℕ) → ahead old.window before ≡ Some text → scanned_behind old.place text ≡ record { lines = []; rest = rest }
  pub known : KnowsEnd now.window after
  pub room : now.place ≤ largest_job
  pub same : after.faults ≡ before.faults

abbrev pub ReadsLine : JobRead → JobRead → SourceState → SourceState → Bool → Type 0
ReadsLine old now before after true = ReadsSentLine old now before after
ReadsLine old now before after false = ReadsLast old now before after

-- ---- its holds

-- these bytes have come: so many holds of their lines, and the comment that the last line is in
pub record HaveCome (bytes : List ℕ) (h : Holds) : Type 0 where
  pub lines : List (List ℕ)
  pub line : List ℕ
  pub cut : CutsInto bytes lines line
  pub comment : h.stripper ≡ comment_after line
  pub count : h.count ≡ sum_by holds_by lines + holds_by line

-- so many holds follow, up to the largest job's end, outside the comments of lines
pub record CountsHolds (old now : JobRead) (before after : SourceState) (count : ℕ) : Type 0 where
  pub counted : (text : List ℕ) → ahead old.window before ≡ Some text → count ≡ sum_by holds_by (lines_behind old.place text)
  pub line : now.line ≡ old.line
  pub known : KnowsEnd now.window after
  pub room : now.place ≤ largest_job
  pub same : after.faults ≡ before.faults
