-- What a recorder has done so far, on plain lists.
use Rattle.std.specs.Prelude.{ℕ, Bool, List}
use Rattle.outside.specs.Causes.{SinkState}
use Rattle.outside.specs.Writing.{Wrote}
use Rattle.step_line.specs.declared.Record.{Record}
use Rattle.step_record.specs.declared.forms.Form.{Form}
use Rattle.step_record.specs.Forms.{text_in}

-- a recorder runs: its sink has a front of the text of the records that it took, in its form
pub record RecorderRuns (form : Form) (was is : SinkState) (taken : List Record) : Type 0 where
  pub failed : Bool
  pub waiting : List ℕ
  pub steps : Wrote was is failed waiting (text_in form taken)
