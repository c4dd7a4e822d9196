-- What stands before a line, as far as the lines before it moved the machine.
use Rattle.std.specs.Prelude.{ℕ, Bool}
use Rattle.run_rules.specs.declared.State.{State}
use Rattle.run_rules.specs.Outcomes.{Before}

-- what the lines before have moved, whether the last that was accepted of G-code and jogs is a jog, and whether one of them has
-- raised an alarm
pub record Since : Type 0 where
  pub moved : Bool
  pub jog_moved : Bool
  pub jogged : Bool
  pub alarmed : Bool

-- this stands before a line of this number
abbrev pub before_line : ℕ → State → Since → Before
before_line number state since = record { number = number; state = state; moved = since.moved; jog_moved = since.jog_moved; jogged = since.jogged; alarmed = since.alarmed }
