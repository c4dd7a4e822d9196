-- The epochs of a board: each has a journal of its own, and the work of a reset ends it.
use Rattle.std.specs.Prelude.{ℕ, ◌+◌, ◌-◌, ◌^◌, ◌≤◌, false, ◌||◌, cond, [], ◌∷◌, ◌++◌, length}
use Rattle.feed_hold.specs.declared.Motion.TheVariants as motions
use Rattle.feed_hold.specs.Motions.{is_moving}
use Rattle.flight.specs.Places.{machine_from}
use Rattle.run_rules.specs.declared.State.{State}
use Rattle.run_texts.specs.Courses.{Reset, reset_state}
use Rattle.run_texts.specs.Points.{Point}
use Rattle.run_texts.specs.Told.{told_at_reset}
use Rattle.status_report.specs.Answering.{is_answer, lfs_in}
use Rattle.step_line.specs.Logs.{NewestFirst}
use Rattle.board_rules.specs.Conduct.{Conducted}
use Rattle.board_journal.specs.Openings.{Opening, first_opening, before_first}
use Rattle.board_journal.specs.Ports.{PortStep, BoardLog, taken_in, reports_in, known_in}
use Rattle.board_journal.specs.Ports.PortStep.{answered, no_piece_room, loaded}
use Rattle.board_journal.specs.Steps.{Journal, port_log, published_of, outcomes_of, whole_of, before_of, motion_of}
use Rattle.board_journal.specs.Steps.Step.{at_port}
use Rattle.board_rules.specs.Turns.{is_alarm, is_limited}
use Rattle.board_epochs.specs.Resets.{MayReset, IsPrompt}
use Rattle.board_epochs.specs.Work.{Work, Works, IsWorked, halted_in}

-- ---- what a reset leaves

-- the state that the answered lines leave: what a line would have changed that has no answer counts for nothing
abbrev pub answered_state : Opening → Journal → State
answered_state first [] = first.state
answered_state first (at_port (answered r) ∷ h) = cond (is_answer r) (before_of first h).state (answered_state first h)
answered_state first (_ ∷ h) = answered_state first h

-- the number of the line that was begun last, in this epoch or before it
abbrev pub last_line : Opening → Journal → ℕ
last_line first h = first.lines + length (outcomes_of h)

-- How many lines are dropped: one that was taken whole and is not begun, and those whose end the work takes. A line whose end comes
-- behind the mark belongs to the next epoch.
abbrev pub lines_dropped : Journal → Work → ℕ
lines_dropped h w = cond (whole_of h) 1 0 + lfs_in (taken_in (port_log w))

-- A reset behind an epoch, before which so many ticks were made: its number; what it drops; whether the machine was moving, and is locked;
-- and where it stands.
abbrev pub reset_of : (base : ℕ) → Opening → Journal → Work → Reset
reset_of base first h w = record {
  number = last_line first h;
  dropped = lines_dropped h w;
  alarm = is_moving (motion_of first h);
  locked = is_moving (motion_of first h) || is_alarm (motion_of first h);
  at = machine_from first.place (published_of h) (halted_in w - base);
}

-- how the next journal begins behind it, with a plan of so many blocks
abbrev pub opens_behind : ℕ → Reset → State → Opening
opens_behind blocks r s = record {
  lines = r.number + r.dropped;
  state = reset_state r.at s;
  place = r.at;
  motion = cond r.locked motions.Alarm motions.Idle;
  tells = told_at_reset r;
  blocks = blocks;
}

abbrev pub next_opening : (base : ℕ) → Opening → Journal → Work → Opening
next_opening base first h w = opens_behind first.blocks (reset_of base first h w) (answered_state first h)

-- where a course of texts stands at an opening
abbrev pub point_of : Opening → Point
point_of first = record { before = before_first first; locked = is_limited first.motion; has_line = false; unanswered = false }

-- ---- the port, which counts on over all epochs

-- a step at the port in the port's own counts, where so many ticks were made before the epoch
abbrev pub counted_on : ℕ → PortStep → PortStep
counted_on base (loaded done) = loaded (base + done)
counted_on base (no_piece_room done) = no_piece_room (base + done)
counted_on base e = e

abbrev pub log_on : ℕ → BoardLog → BoardLog
log_on base [] = []
log_on base (e ∷ l) = counted_on base e ∷ log_on base l

-- all that was done at the port up to the end of an epoch, behind what was done before it
abbrev pub log_behind : BoardLog → Journal → BoardLog
log_behind before h = log_on (known_in before) (port_log h) ++ before

-- ---- epochs

-- one that a reset has ended
pub record Closed : Type 0 where
  pub journal : Journal
  pub work : Work

-- the open epoch goes on, or a reset is being worked behind its journal
pub data Epochs : Type 0 where
  goes : NewestFirst Closed → Journal → Epochs
  resets : NewestFirst Closed → Journal → Work → Epochs

-- What was done at the port in closed epochs. A reset's work is in the port's own counts; it finds all ticks done, so that the next
-- epoch counts from there.
abbrev pub closed_log : NewestFirst Closed → BoardLog
closed_log [] = []
closed_log (e ∷ es) = port_log e.work ++ log_behind (closed_log es) e.journal

-- how many ticks were made in them, with the marks of their resets
abbrev pub ticks_made : NewestFirst Closed → ℕ
ticks_made es = known_in (closed_log es)

-- all that was done at the port, the latest first
abbrev pub log_of : Epochs → BoardLog
log_of (goes es h) = log_behind (closed_log es) h
log_of (resets es h w) = port_log w ++ log_behind (closed_log es) h

-- how the epoch behind closed ones begins, with a plan of so many blocks
abbrev pub opening_behind : (blocks : ℕ) → State → NewestFirst Closed → Opening
opening_behind blocks state [] = first_opening blocks state
opening_behind blocks state (e ∷ es) = next_opening (ticks_made es) (opening_behind blocks state es) e.journal e.work

-- an epoch that keeps to the rules from an opening on, promptly
pub record IsEpoch (first : Opening) (h : Journal) : Type 0 where
  pub conducted : Conducted first h
  pub prompt : IsPrompt first h

-- and a reset that is being worked behind it
pub record IsResetting (first : Opening) (before : BoardLog) (h : Journal) (w : Work) : Type 0 where
  pub epoch : IsEpoch first h
  pub may : MayReset first h
  pub works : Works (last_line first h) (log_behind before h) w

-- one whose reset was worked whole
pub record IsClosed (first : Opening) (before : BoardLog) (e : Closed) : Type 0 where
  pub resetting : IsResetting first before e.journal e.work
  pub worked : IsWorked (log_behind before e.journal) e.work

abbrev pub AreClosed : (blocks : ℕ) → State → NewestFirst Closed → Type 0
AreClosed blocks state [] = Unit {0}
AreClosed blocks state (e ∷ es) = IsClosed (opening_behind blocks state es) (closed_log es) e × AreClosed blocks state es

-- the port gives so many bytes at most, and so many words that ask for a report
pub record IsBounded (l : BoardLog) : Type 0 where
  pub bytes : length (taken_in l) ≤ 2 ^ 31
  pub reports : reports_in l ≤ 2 ^ 31

-- what a board may do over a run, from the first opening on, with a plan of so many blocks
abbrev pub AreEpochs : (blocks : ℕ) → State → Epochs → Type 0
AreEpochs blocks state (goes es h) = AreClosed blocks state es × IsEpoch (opening_behind blocks state es) h × IsBounded (log_of (goes es h))
AreEpochs blocks state (resets es h w) = AreClosed blocks state es × IsResetting (opening_behind blocks state es) (closed_log es) h w × IsBounded (log_of (resets es h w))
