-- A desk at which lines are judged.
use Rattle.std.specs.Prelude.{◌≡◌, ◌≤◌, Bool, false}
use Rattle.gcode_check.specs.Items.{settling}
use Rattle.run_rules.specs.States.{IsState}
use Rattle.run_rules.specs.Work.{Outcome, Kind}
use Rattle.run_rules.specs.Work.Kind.{of_code, of_jog, of_none}
use Rattle.run_rules.specs.Outcomes.{Before}
use Rattle.line_interpreter.specs.Since.{Since, before_line}
use Rattle.line_interpreter.specs.Lefts.{IsSound, work_left}
use Rattle.line_interpreter.specs.declared.desk.Desk.{Desk}
use Rattle.line_interpreter.specs.declared.desk.Accepted.{Accepted}
use Rattle.line_interpreter.specs.declared.desk.Accepted.TheVariants.{Code, Jog, Neither}
use Rattle.line_interpreter.specs.declared.tasks.Body.{Body}
use Rattle.line_interpreter.specs.declared.tasks.Body.TheVariants.{Items}
use Rattle.line_interpreter.specs.declared.tasks.Line.{Line}

-- the fields of a desk are in range
pub record IsReady (d : Desk) : Type 0 where
  pub state : IsState d.state
  pub number : 1 ≤ d.number
  pub line : IsSound d.line

-- this stands before the next line
abbrev pub standing : Desk → Since → Before
standing d since = before_line d.number d.state since

abbrev pub kind_told : Accepted → Kind
kind_told Code = of_code
kind_told Jog = of_jog
kind_told Neither = of_none

-- a line settles by its items, if it asks for items
abbrev pub settles_by : Body → Bool → Bool
settles_by Items settles = settles
settles_by _ settles = false

abbrev pub settles_of : Line → Bool
settles_of l = settles_by l.body (settling l.items.items)

-- the line was judged, and this is accepted: all of what becomes of it is left to do
pub record Begun (d : Desk) (o : Outcome) (accepted : Accepted) : Type 0 where
  pub state : d.state ≡ o.next
  pub left : work_left d.line d.state ≡ o.work
  pub answer : kind_told accepted ≡ o.kind
  pub settles : settles_of d.line ≡ o.settles
