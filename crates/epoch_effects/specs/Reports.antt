-- What reports show in each epoch, and which lines are answered there.
use Rattle.std.specs.Prelude.{◌≡◌, ℕ, ◌+◌, ◌≤◌, Bool, true, List, [], ◌∷◌, ◌++◌, length, reverse, take}
use Rattle.std.specs.List.{AllByRecursion, flat_map}
use Rattle.flight.specs.Places.{machine_from}
use Rattle.run_rules.specs.declared.State.{State}
use Rattle.run_rules.specs.Cuts.{counts_asked, cut_to, with_cut}
use Rattle.run_rules.specs.Reports.{Course, Reported, fewest, state_behind}
use Rattle.run_rules.specs.Work.{Outcome}
use Rattle.run_texts.specs.Courses.{Passed, Reset, cuts_in, lines_in, reset_state}
use Rattle.run_texts.specs.Courses.Passed.{a_line, a_broken, a_cut, a_reset}
use Rattle.run_texts.specs.Parts.{Part, Ending, parts_of, lines_counted}
use Rattle.run_texts.specs.Parts.Ending.{by_cut, by_reset, by_end}
use Rattle.status_report.specs.Answering.{answers_in, reports_among}
use Rattle.status_report.specs.Reports.{CanBeTold}
use Rattle.step_line.specs.Finishing.{ticks_together}
use Rattle.step_line.specs.Pieces.{ticks_of}
use Rattle.units.specs.declared.Steps3.{Steps3}
use Rattle.epoch_courses.specs.Drives.{Driven}
use Rattle.epoch_effects.specs.Locks.{ShowLocks}
use Rattle.epoch_effects.specs.Effects.{EpochEffects, Stop, is_alarmed}
use Rattle.epoch_effects.specs.Effects.Stop.{runs_on, is_halted, is_cut}

-- ---- the lines of an epoch, and their ticks

-- the lines that were begun, also one that a reset keeps from its answer
abbrev pub begun_in : List Passed → List Outcome
begun_in [] = []
begun_in (a_line o ∷ ps) = o ∷ begun_in ps
begun_in (a_broken o ∷ ps) = o ∷ begun_in ps
begun_in (a_cut k at ∷ ps) = begun_in ps
begun_in (a_reset r ∷ ps) = begun_in ps

-- how many ticks count of each line of a part of which so many were given
abbrev pub counts_by : Stop → (given : ℕ) → List Outcome → List ℕ
counts_by runs_on given os = counts_asked os
counts_by is_halted given os = cut_to given (counts_asked os)
counts_by is_cut given os = with_cut (cut_to given (counts_asked os))

-- a cut ends its part
abbrev pub stop_of : Ending → Stop → Stop
stop_of (by_cut k at) stop = is_cut
stop_of (by_reset r) stop = stop
stop_of by_end stop = stop

abbrev pub counts_over : Stop → List Part → List Driven → List ℕ
counts_over stop [] ds = []
counts_over stop (p ∷ ps) [] = []
counts_over stop (p ∷ ps) (d ∷ ds) = counts_by (stop_of p.ending stop) (ticks_together d.given) (lines_counted p) ++ counts_over stop ps ds

abbrev pub counts_in : EpochEffects → List ℕ
counts_in e = counts_over e.stop (parts_of e.passed) e.drives

-- how many ticks were given in all, the marks of cuts among them
abbrev pub mark_given : Stop → ℕ
mark_given runs_on = 0
mark_given is_halted = 0
mark_given is_cut = 1

abbrev pub given_in : EpochEffects → ℕ
given_in e = ticks_together (flat_map (λ d. d.given) e.drives) + cuts_in e.passed + mark_given e.stop

-- What its reports are judged by: the epoch's opening, its lines, and the ticks that were made of the pieces published in it; so a
-- report shows a place to which its records lead.
abbrev pub report_course : EpochEffects → Course
report_course e = record {
  first = e.first;
  place = e.place;
  locked = e.locked;
  outcomes = begun_in e.passed;
  counts = counts_in e;
  ticks = take e.made (flat_map ticks_of e.pieces);
  given = given_in e;
  held = e.taken.held;
  changed = e.taken.changed;
}

-- Each report can be told. It fits, and shows no more ticks than were found done, which are made. There are as many reports at most as
-- words that asked for one. All lines that were begun but the last are answered; and the ticks of the lines up to the last answered one that settles
-- were found done. Only an alarm halts the machine.
pub record HasReported (e : EpochEffects) : Type 0 where
  pub valid : AllByRecursion CanBeTold e.answered
  pub fit : Reported (report_course e) (reverse e.answered) e.known
  pub few : reports_among e.answered ≤ e.taken.asked
  pub made : e.known ≤ e.made
  pub one : length (begun_in e.passed) ≤ answers_in e.answered + 1
  pub least : fewest (answers_in e.answered) (begun_in e.passed) (counts_in e) ≤ e.known
  pub halts : e.stop ≡ is_halted → is_alarmed e.passed ≡ true

-- Its reports tell of an alarm while it is locked, and behind the line that unlocks it only of one that a line has raised.
abbrev pub TellsLock : EpochEffects → Type 0
TellsLock e = ShowLocks e.locked (begun_in e.passed) (reverse e.answered)

-- ---- how epochs open

-- the resets of a course
abbrev pub resets_of : List Passed → List Reset
resets_of [] = []
resets_of (a_reset r ∷ ps) = r ∷ resets_of ps
resets_of (_ ∷ ps) = resets_of ps

pub record OpensAt (first : State) (place : Steps3) (locked : Bool) (e : EpochEffects) : Type 0 where
  pub state : e.first ≡ first
  pub stands : e.place ≡ place
  pub locks : e.locked ≡ locked

-- The first opens so; and each other one where the reset before it stands, to which the ticks made before it lead, locked if that says
-- so, with the state that the answered lines before it have left.
abbrev pub AreOpened : State → Steps3 → Bool → List Reset → List EpochEffects → Type 0
AreOpened first place locked rs [] = ⊥
AreOpened first place locked [] (e ∷ es) = OpensAt first place locked e × (es ≡ [])
AreOpened first place locked (r ∷ rs) (e ∷ es) = OpensAt first place locked e × (r.at ≡ machine_from e.place e.pieces e.made) × AreOpened (reset_state r.at (state_behind e.first (lines_in e.passed))) r.at r.locked rs es
