-- Jobs whose lines are all accepted, also if the machine may be found running.
use Rattle.std.specs.Prelude.{◌≡◌, ◌≢◌, ℕ, ◌≤◌, false, List, [], length, map, slice_get, Some}
use Rattle.std.specs.List.{AllByRecursion}
use Rattle.gcode_words.specs.Stripping.{plain, realtime}
use Rattle.run_rules.specs.declared.State.{State}
use Rattle.run_rules.specs.Lines.{lines_of}
use Rattle.run_rules.specs.Readings.{largest_job}
use Rattle.run_rules.specs.Work.{Outcome}
use Rattle.run_rules.specs.Work.Kind.{of_code}
use Rattle.run_rules.specs.Outcomes.{Before, Follows, start}
use Rattle.run_rules.specs.Outcomes.Passed.{a_line}
use Rattle.run_rules.specs.Told.{asked_in, errors_in, limits_in}
use Rattle.step_line.specs.Asking.{Asked}

-- what is kept of a line does not begin with `$`
abbrev pub IsNoSystemLine : List ℕ → Type 0
IsNoSystemLine line = slice_get (plain line) 0 ≢ Some 36

-- no realtime byte is in a line, outside its comments
abbrev pub IsCalm : List ℕ → Type 0
IsCalm line = realtime line ≡ []

-- a line of G-code that was accepted
abbrev pub IsCode : Outcome → Type 0
IsCode o = o.kind ≡ of_code

-- A job of at most 16,777,216 bytes that is these lines. All of them are accepted from this state on, and together ask
-- for this: none is refused, and none raises an alarm. All are lines of G-code, and none of them begins with `$`, so
-- that none is refused for the motion; and none has a realtime byte.
pub record IsAccepted (job : List ℕ) (lines : List (List ℕ)) (asked : List Asked) (first : State) : Type 0 where
  pub few : length job ≤ largest_job
  pub cut : lines_of job ≡ lines
  pub outcomes : List Outcome
  pub last : Before
  pub follows : Follows false (start first) (map plain lines) (map a_line outcomes) last
  pub accepted : errors_in outcomes ≡ 0
  pub within : limits_in outcomes ≡ 0
  pub asks : asked_in outcomes ≡ asked
  pub kinds : AllByRecursion IsCode outcomes
  pub anywhere : AllByRecursion IsNoSystemLine lines
  pub calm : AllByRecursion IsCalm lines
