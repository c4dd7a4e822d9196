-- The course of a run: what becomes of its lines, where jogs are cut, and where resets end an epoch.
use Rattle.std.specs.Prelude.{◌≡◌, ℕ, ◌+◌, Bool, true, false, ◌||◌, List, [], ◌∷◌, length}
use Rattle.units.specs.declared.Steps3.{Steps3}
use Rattle.run_rules.specs.Work.{Outcome}
use Rattle.run_rules.specs.Outcomes.{start, at_place, either}
pub use Rattle.run_rules.specs.Resets.{reset_state}
use Rattle.run_texts.specs.Sent.{Sent, waiting_in, has_reset, behind_reset}
use Rattle.run_texts.specs.Sent.Sent.{a_text, a_stop}
use Rattle.run_texts.specs.Points.{Point, IsPassed, IsBroken, behind_line, behind_broken}

-- ---- what is passed

-- A reset: the number of the last line that was begun in the epoch that it ends, or of the line before that epoch; how
-- many lines were dropped that were not begun; whether `ALARM:3` is told, and whether the machine is locked then; and
-- where it stands.
pub record Reset : Type 0 where
  pub number : ℕ
  pub dropped : ℕ
  pub alarm : Bool
  pub locked : Bool
  pub at : Steps3

-- a line, with what became of it; a line that was begun and that a reset keeps from its answer, with what it would have
-- become; a cut, with its number and its place; or a reset
pub data Passed : Type 0 where
  a_line : Outcome → Passed
  a_broken : Outcome → Passed
  a_cut : ℕ → Steps3 → Passed
  a_reset : Reset → Passed

-- ---- cuts

-- A cut has the number of the line before it, and ends a part that has a line. No line has raised an alarm.
pub record IsCut (p : Point) (k : ℕ) : Type 0 where
  pub free : p.before.alarmed ≡ false
  pub number : p.before.number ≡ k + 1
  pub has_line : p.has_line ≡ true

-- the lines behind it begin at its place
abbrev pub behind_cut : Steps3 → Point → Point
behind_cut at p = record p { before = at_place at p.before; has_line = false }

-- ---- resets

-- A reset comes of the job, and no line has raised an alarm. It drops the lines of its epoch that wait. `ALARM:3` is told
-- only if a move of some events stands behind the last answered line that settles; from then on the machine is locked.
pub record IsReset (p : Point) (sent : List Sent) (r : Reset) : Type 0 where
  pub free : p.before.alarmed ≡ false
  pub comes : has_reset sent ≡ true
  pub number : r.number + 1 ≡ p.before.number
  pub dropped : r.dropped ≡ length (waiting_in sent)
  pub cause : r.alarm ≡ true → (p.before.moved || p.before.jog_moved) ≡ true
  pub locked : r.locked ≡ (r.alarm || p.locked)

-- A new epoch begins behind the lines that were dropped: nothing has moved in it.
abbrev pub behind_the_reset : Reset → Point → Point
behind_the_reset r p = record {
  before = record (start (reset_state r.at p.before.state)) { number = r.number + r.dropped + 1 };
  locked = r.locked;
  has_line = false;
  unanswered = false;
}

-- ---- courses

-- All lines that were begun are answered, and nothing is left of a job; or a line has raised an alarm, and lines are left
-- that wait behind it, and at most one reset, the last that comes.
pub record IsLeft (p : Point) (sent : List Sent) : Type 0 where
  pub answered : p.unanswered ≡ false
  pub rest : either p.before.alarmed (behind_reset sent ≡ []) (sent ≡ [])

-- From one point on, a job takes this course, which leads to another: line by line, cut by cut, reset by reset.
abbrev pub Follows : Point → List Sent → List Passed → Point → Type 0
Follows p sent (a_cut k at ∷ ps) last = IsCut p k × Follows (behind_cut at p) sent ps last
Follows p sent (a_reset r ∷ ps) last = IsReset p sent r × Follows (behind_the_reset r p) (behind_reset sent) ps last
Follows p sent [] last = (last ≡ p) × IsLeft p sent
Follows p (a_text line ∷ sent) (a_line o ∷ ps) last = IsPassed p line o × Follows (behind_line p line o) sent ps last
Follows p (a_text line ∷ sent) (a_broken o ∷ ps) last = IsBroken p line o × Follows (behind_broken p o) sent ps last
Follows p (a_stop ∷ sent) (a_line o ∷ ps) last = ⊥
Follows p (a_stop ∷ sent) (a_broken o ∷ ps) last = ⊥
Follows p [] (a_line o ∷ ps) last = ⊥
Follows p [] (a_broken o ∷ ps) last = ⊥

-- how many cuts a course has
abbrev pub cuts_in : List Passed → ℕ
cuts_in [] = 0
cuts_in (a_cut k at ∷ ps) = cuts_in ps + 1
cuts_in (_ ∷ ps) = cuts_in ps

-- what became of the lines that are answered, or raise an alarm
abbrev pub lines_in : List Passed → List Outcome
lines_in [] = []
lines_in (a_line o ∷ ps) = o ∷ lines_in ps
lines_in (_ ∷ ps) = lines_in ps
