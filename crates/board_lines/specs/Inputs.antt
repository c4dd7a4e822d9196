-- What a board keeps of the line that is not begun.
use Rattle.std.specs.Prelude.{◌≡◌, ℕ, Bool, true, false, List, []}
use Rattle.run_rules.specs.Outcomes.{begins_with_dollar}
use Rattle.line_interpreter.specs.Keeping.{IsKept}
use Rattle.board_lines.specs.declared.input.Input.{Input}

-- the line that is not begun, by its bytes, and whether it was taken whole
pub record Reads (i : Input) (bytes : List ℕ) (whole : Bool) : Type 0 where
  pub kept_is : IsKept i.kept bytes
  pub whole_is : i.whole ≡ whole
  pub empty : i.begun ≡ false → bytes ≡ []
  pub begun : i.begun ≡ true → bytes ≡ [] → ⊥
  pub dollar_is : i.dollar ≡ begins_with_dollar bytes
