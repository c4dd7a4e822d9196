-- What contracts see of an interpreter.
use Rattle.std.specs.Prelude.{ℕ, List}
use Rattle.run_rules.specs.declared.State.{State}
use Rattle.run_rules.specs.Work.{Task}
use Rattle.run_rules.specs.Outcomes.{Before}
use Rattle.line_interpreter.specs.Since.{Since, before_line}
use Rattle.line_interpreter.specs.Lefts.{work_left}
use Rattle.line_interpreter.specs.declared.desk.Desk.{Desk}

-- the state behind the lines that were begun, the number of the next line, and what is left to do
pub record Interpreting : Type 0 where
  pub state : State
  pub number : ℕ
  pub left : List Task

abbrev pub interpreting : Desk → Interpreting
interpreting d = record { state = d.state; number = d.number; left = work_left d.line d.state }

-- this stands before the next line, where the lines before it have moved so
abbrev pub stands_before : Interpreting → Since → Before
stands_before i since = before_line i.number i.state since
