-- Steps as a text of form 1 or 2.
use Rattle.std.specs.Prelude.{◌≡◌, ◌≤◌, ℕ, Bool, true, false, cond, nat_eq, List, [], ◌∷◌, length, take, drop, Some, None}
use Rattle.std.specs.declared.option.Option.{Option}
use Rattle.std.specs.List.{flat_map, AllByRecursion}
use Rattle.std.specs.Str.{bytes_eq}
use Rattle.step_line.specs.Events.{IsEvent}
use Rattle.step_line.specs.Records.{IsRecord}
use Rattle.step_line.specs.declared.Bits.{Bits}
use Rattle.step_line.specs.declared.Record.{Record}
use Rattle.step_line.specs.declared.Record.TheVariants as kinds
use Rattle.step_record.specs.Forms.{full_run, line_text, records_of as records_by}
use Rattle.step_record.specs.declared.forms.Form.{Form}
use Rattle.step_record.specs.declared.forms.Form.TheVariants.{One, Two}
use Rattle.step_record.specs.declared.forms.Line.{Line}
use Rattle.step_record.specs.declared.forms.Line.TheVariants as line_kinds

-- A line that may stand behind the heading: that of a record, or, in form 2, of equal events that stand together.
abbrev pub IsLineOf : Form → Line → Type 0
IsLineOf form (line_kinds.One r) = IsRecord r
IsLineOf One (line_kinds.Run n b) = ⊥
IsLineOf Two (line_kinds.Run n b) = (2 ≤ n) × (n ≤ full_run) × IsEvent b
IsLineOf form line_kinds.Version = ⊥

-- the event that a line has once or more
abbrev pub event_in : Line → Option Bits
event_in (line_kinds.One (kinds.Event b)) = Some b
event_in (line_kinds.One _) = None
event_in (line_kinds.Run n b) = Some b
event_in line_kinds.Version = None

abbrev pub is_full : Line → Bool
is_full (line_kinds.One r) = false
is_full (line_kinds.Run n b) = nat_eq n full_run
is_full line_kinds.Version = false

-- in form 2 a line with the event of the line before it comes only behind a full run
abbrev pub MayFollow : Form → Line → Line → Type 0
MayFollow One line next = Unit {0}
MayFollow Two line next = (b : Bits) → event_in line ≡ Some b → event_in next ≡ Some b → is_full line ≡ true

abbrev pub AreApart : Form → List Line → Type 0
AreApart form [] = Unit {0}
AreApart form (line ∷ []) = Unit {0}
AreApart form (line ∷ next ∷ more) = MayFollow form line next × AreApart form (next ∷ more)

-- a line may come behind the last of some, if there is one
abbrev pub FollowsLast : Form → Option Line → Line → Type 0
FollowsLast form None next = Unit {0}
FollowsLast form (Some line) next = MayFollow form line next

abbrev pub last_of : List Line → Option Line
last_of [] = None
last_of (line ∷ []) = Some line
last_of (line ∷ next ∷ more) = last_of (next ∷ more)

pub record AreLinesOf (form : Form) (all : List Line) : Type 0 where
  pub each : AllByRecursion (IsLineOf form) all
  pub apart : AreApart form all

abbrev pub lines_text : List Line → List ℕ
lines_text all = flat_map line_text all

abbrev pub records_of : List Line → List Record
records_of all = flat_map records_by all

-- form 2 begins with a line of its own
abbrev pub heading : Form → List ℕ
heading One = []
heading Two = line_text line_kinds.Version

-- a text that begins with that line is of form 2, and any other of form 1
abbrev pub form_of : List ℕ → Form
form_of text = cond (bytes_eq (take (length (heading Two)) text) (heading Two)) Two One

-- the text behind it
abbrev pub body_of : List ℕ → List ℕ
body_of text = drop (length (heading (form_of text))) text

-- a text is these lines
pub record IsStepText (text : List ℕ) (all : List Line) : Type 0 where
  pub are : AreLinesOf (form_of text) all
  pub body : body_of text ≡ lines_text all
