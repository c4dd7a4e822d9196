-- How a run is set up.
use Rattle.std.specs.Prelude.{ℕ, Bool}
use Rattle.step_record.specs.declared.forms.Form.{Form}

-- whether its sender stands by, for how many bytes its link has room, how many blocks its plan holds, and the form of its steps
pub record Setup : Type 0 where
  pub attended : Bool
  pub room : ℕ
  pub blocks : ℕ
  pub form : Form
