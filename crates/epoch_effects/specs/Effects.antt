-- What words of flags have done to a run, epoch by epoch: to its overrides, its speed and its jogs.
use Rattle.std.specs.Prelude.{◌≡◌, ℕ, ◌≤◌, Bool, List, [], ◌∷◌, ◌++◌, map}
use Rattle.std.specs.List.{AllByRecursion, flat_map, list_any}
use Rattle.planner_runs.specs.declared.Action.{Action}
use Rattle.planner_runs.specs.Runs.{DisturbedOnlyBy, all_asked, normal_overrides}
use Rattle.run_rules.specs.declared.State.{State}
use Rattle.run_rules.specs.Reports.{raises_alarm}
use Rattle.run_texts.specs.Courses.{Passed, cuts_in, lines_in}
use Rattle.run_texts.specs.Courses.Passed.{a_line, a_broken, a_cut, a_reset}
use Rattle.status_report.specs.declared.Reply.{Reply}
use Rattle.step_line.specs.Asking.{Asked}
use Rattle.step_line.specs.declared.Piece.{Piece}
use Rattle.units.specs.declared.Steps3.{Steps3}
use Rattle.board_rules.specs.Parts.{IsSlowedOnlyBy}
use Rattle.run_law.specs.Changes.{IsAmong, AreChanges}
use Rattle.epoch_courses.specs.Drives.{Driven}
use Rattle.epoch_effects.specs.Words.{WordsTaken}

-- ---- a course, epoch by epoch

abbrev pub onto_epoch : Passed → List (List Passed) → List (List Passed)
onto_epoch p [] = []
onto_epoch p (ps ∷ epochs) = (p ∷ ps) ∷ epochs

-- resets part it; they are in no epoch
abbrev pub epochs_in : List Passed → List (List Passed)
epochs_in [] = [] ∷ []
epochs_in (a_line o ∷ ps) = onto_epoch (a_line o) (epochs_in ps)
epochs_in (a_broken o ∷ ps) = onto_epoch (a_broken o) (epochs_in ps)
epochs_in (a_cut k at ∷ ps) = onto_epoch (a_cut k at) (epochs_in ps)
epochs_in (a_reset r ∷ ps) = [] ∷ epochs_in ps

-- ---- one epoch

-- How its last part goes on: all that its lines ask for counts; or it was halted, for an alarm; or the mark of a cut was given behind
-- it, and is not made. What a halt or a cut drops does not count.
pub data Stop : Type 0 where
  runs_on : Stop
  is_halted : Stop
  is_cut : Stop

-- What was passed in it, its parts as the planner has run them, and what was taken of the words of flags. How it opened: the state, and
-- where the machine stood, and whether it was locked. How its last part goes on; the pieces that were published in it, how many of their
-- ticks were made, and how many were found done; and the replies that were answered, with reports.
pub record EpochEffects : Type 0 where
  pub passed : List Passed
  pub drives : List Driven
  pub taken : WordsTaken
  pub first : State
  pub place : Steps3
  pub locked : Bool
  pub stop : Stop
  pub pieces : List Piece
  pub made : ℕ
  pub known : ℕ
  pub answered : List Reply

-- what was done to the plan in these parts, in order
abbrev pub actions_in : List Driven → List Action
actions_in drives = flat_map (λ d. d.actions) drives

-- all that was asked of a part: what was done of it, and what was left to ask
abbrev pub asked_of_part : Driven → List Asked
asked_of_part d = all_asked d.actions ++ d.left

-- Nothing else has disturbed the parts than a hold or a cancel, if a word for one was taken, and a change of overrides, if one was;
-- and in the last part, only behind the line that raised it, an alarm.
abbrev pub AreSlowedOnlyBy : (slowed alarmed changed : Bool) → List Driven → Type 0
AreSlowedOnlyBy slowed alarmed changed [] = Unit {0}
AreSlowedOnlyBy slowed alarmed changed (d ∷ []) = IsSlowedOnlyBy slowed alarmed changed (asked_of_part d) d.actions
AreSlowedOnlyBy slowed alarmed changed (d ∷ e ∷ ds) = DisturbedOnlyBy slowed changed d.actions × AreSlowedOnlyBy slowed alarmed changed (e ∷ ds)

-- a line has raised an alarm
abbrev pub is_alarmed : List Passed → Bool
is_alarmed passed = list_any raises_alarm (lines_in passed)

-- Overrides begin at 100 percent, and each change sets them to that, or is by a word that was taken in the epoch. Nothing slows the
-- machine down for which no word was taken in it, but an alarm. And jogs are cut as often at most as words for a hold or a cancel were
-- taken.
pub record IsAsTaken (e : EpochEffects) : Type 0 where
  pub changes : AreChanges (IsAmong e.taken.changes) normal_overrides (actions_in e.drives)
  pub slowed : AreSlowedOnlyBy e.taken.slowed (is_alarmed e.passed) e.taken.changed e.drives
  pub cuts : cuts_in e.passed ≤ e.taken.cancels

-- ---- all of them

-- A course and the parts of it that were run, epoch by epoch, are as what was taken has made them.
pub record AreEffects (course : List Passed) (drives : List Driven) (epochs : List EpochEffects) : Type 0 where
  pub passed : epochs_in course ≡ map (λ e. e.passed) epochs
  pub driven : drives ≡ flat_map (λ e. e.drives) epochs
  pub each : AllByRecursion IsAsTaken epochs
