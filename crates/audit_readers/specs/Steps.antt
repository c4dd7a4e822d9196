-- A step text, read line by line.
use Rattle.std.specs.Prelude.{◌≡◌, ℕ, ◌+◌, List, ◌++◌, length, Some, None}
use Rattle.std.specs.declared.option.Option.{Option}
use Rattle.std.specs.Io.KnownBytes.{Consumes}
use Rattle.outside.specs.Causes.{Rose, SourceState}
use Rattle.step_record.specs.Forms.{line_text}
use Rattle.step_record.specs.declared.forms.Form.{Form}
use Rattle.step_record.specs.declared.forms.Line.{Line}
use Rattle.audit_rules.specs.StepTexts.{IsLineOf, FollowsLast, heading, form_of, body_of}
use Rattle.audit_readers.specs.Windows.{Window, ahead, KnowsEnd, Stays}

-- the window on it, its form, the last line that was read, and the place behind that
pub record StepsRead : Type 0 where
  pub window : Window
  pub form : Form
  pub last : Option Line
  pub place : ℕ

-- its form was read, and nothing of its lines
pub record Opens (s : StepsRead) (before after : SourceState) : Type 0 where
  pub form : (text : List ℕ) → before.left ≡ Some text → s.form ≡ form_of text
  pub text : (text : List ℕ) → before.left ≡ Some text → ahead s.window after ≡ Some (body_of text)
  pub place : s.place ≡ length (heading s.form)
  pub last : s.last ≡ None
  pub known : KnowsEnd s.window after
  pub same : after.faults ≡ before.faults

-- a line may stand behind what was read
pub record MayStand (s : StepsRead) (line : Line) : Type 0 where
  pub is : IsLineOf s.form line
  pub follows : FollowsLast s.form s.last line

-- the next line was read
pub record ReadsLine (old now : StepsRead) (before after : SourceState) (line : Line) : Type 0 where
  pub may : MayStand old line
  pub text : Consumes (ahead old.window before) (ahead now.window after) (line_text line)
  pub place : now.place ≡ old.place + length (line_text line)
  pub last : now.last ≡ Some line
  pub form : now.form ≡ old.form
  pub known : KnowsEnd now.window after
  pub same : after.faults ≡ before.faults

-- all is as it was, but for what waits of what follows
pub record IsWhereItWas (old now : StepsRead) (before after : SourceState) : Type 0 where
  pub stays : Stays old.window now.window before after
  pub place : now.place ≡ old.place
  pub last : now.last ≡ old.last
  pub form : now.form ≡ old.form

-- no line stands there that may
pub record ReadsNone (old now : StepsRead) (before after : SourceState) : Type 0 where
  pub where_it_was : IsWhereItWas old now before after
  pub none : (text rest : List ℕ) (line : Line) → ahead now.window after ≡ Some text → MayStand now line → text ≡ line_text line ++ rest → ⊥
  pub same : after.faults ≡ before.faults

-- a read failed
pub record FailsToRead (old now : StepsRead) (before after : SourceState) : Type 0 where
  pub where_it_was : IsWhereItWas old now before after
  pub rose : Rose before.faults after.faults

abbrev pub Reads : StepsRead → StepsRead → SourceState → SourceState → Option Line → Type 0
Reads old now before after None = ReadsNone old now before after
Reads old now before after (Some line) = ReadsLine old now before after line
