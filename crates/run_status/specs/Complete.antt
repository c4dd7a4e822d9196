-- Jobs that are carried out whole.
use Rattle.std.specs.Prelude.{◌≡◌, ℕ, ◌≤◌, false, List, [], ◌∷◌, length, map, slice_get, Some}
use Rattle.outside.specs.Causes.{SourceState}
use Rattle.gcode_words.specs.Stripping.{plain}
use Rattle.system_lines.specs.Commands.{kind_of}
use Rattle.run_rules.specs.declared.State.{State}
use Rattle.run_rules.specs.Lines.{lines_of}
use Rattle.run_rules.specs.Readings.{largest_job}
use Rattle.run_rules.specs.States.{IsOpening}
use Rattle.run_rules.specs.Work.{Outcome}
use Rattle.run_rules.specs.Outcomes.{Before, Follows, start, after, has_cause}
use Rattle.run_rules.specs.Outcomes.Passed.{a_line}
use Rattle.run_rules.specs.Told.{errors_in, limits_in}
use Rattle.host_journal.specs.declared.Stop.TheVariants.{End}
use Rattle.host_journal.specs.Jobs.{resets_scanned}
use Rattle.run_law.specs.declared.RunEnd.{RunEnd}

-- no line comes after lines that give a cause for its refusal: none of G-code after a jog, and none that begins with
-- `$` if what its kind is refused for has moved since the last line that settles
abbrev pub AreServed : Before → List (List ℕ) → List Outcome → Type 0
AreServed b [] os = Unit {0}
AreServed b (l ∷ ls) [] = Unit {0}
AreServed b (l ∷ ls) (o ∷ os) = (slice_get l 0 ≡ Some 36 → has_cause b (kind_of l) ≡ false) × (b.jogged ≡ false) × AreServed (after b o) ls os

-- A job that its source tells, of at most 16,777,216 bytes, with no reset outside comments. All its lines are accepted,
-- none raises an alarm, and none comes after lines that give a cause for its refusal.
pub record IsAcceptedJob (job : SourceState) : Type 0 where
  pub bytes : List ℕ
  pub told : job.left ≡ Some bytes
  pub few : length bytes ≤ largest_job
  pub going : resets_scanned bytes ≡ 0
  pub first : State
  pub outcomes : List Outcome
  pub last : Before
  pub opening : IsOpening first
  pub follows : Follows false (start first) (map plain (lines_of bytes)) (map a_line outcomes) last
  pub served : AreServed (start first) (map plain (lines_of bytes)) outcomes
  pub accepted : errors_in outcomes ≡ 0
  pub calm : limits_in outcomes ≡ 0

-- What a run of such a job does: all of it is read and sent, and each line is accepted, as when the machine is never
-- found in motion.
pub record IsComplete (bytes read : List ℕ) (lines : List (List ℕ)) (outcomes became : List Outcome) (end : RunEnd) : Type 0 where
  pub stop : end.stop ≡ End
  pub errors : end.errors ≡ 0
  pub answered : end.answered ≡ length lines
  pub all : read ≡ bytes
  pub sent : lines ≡ lines_of bytes
  pub same : became ≡ outcomes
