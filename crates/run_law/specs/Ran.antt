-- What a recorder has done in a whole run, on plain lists.
use Rattle.std.specs.Prelude.{Bool, List}
use Rattle.outside.specs.Causes.{SinkState}
use Rattle.outside.specs.Writing.{Took}
use Rattle.step_line.specs.declared.Record.{Record}
use Rattle.step_line.specs.Ending.{IsEnded}
use Rattle.step_record.specs.declared.forms.Form.{Form}
use Rattle.step_record.specs.Forms.{text_in}

-- A recorder has run: it took records, the end at last, and wrote their text in its form, or its sink failed.
pub record RecorderRan (form : Form) (was is : SinkState) (taken : List Record) (failed : Bool) : Type 0 where
  pub ended : IsEnded taken
  pub steps : Took was is failed (text_in form taken)
