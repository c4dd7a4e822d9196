-- The port on which the work is tried: no host and no pulse stand behind it.
use Rattle.std.specs.Prelude.{◌≡◌, ℕ, ◌+◌, ◌≤◌, ◌<◌, length}
use Rattle.motion_ring.specs.Sides as ring
use Rattle.serial_ring.specs.Logs.{marked_in}
use Rattle.serial_ring.specs.Marks.{MarkedPast}
use Rattle.run_rules.specs.declared.State.{State}
use Rattle.step_line.specs.Logs.{NewestFirst}
use Rattle.board_journal.specs.Ports.{BoardLog, taken_in, known_in, link_steps, sent_in}
use Rattle.board_journal.specs.Steps.{Journal}
use Rattle.board_epochs.specs.Epochs.{Closed}
use Rattle.board_epochs.specs.Work.{Work}
use Rattle.reset_work.specs.declared.reset.ResetWork.{ResetWork}
use Rattle.reset_work.specs.Working.{IsBetween}

-- Of the bytes that are stored so many are left, and no mark is behind more of them. So many ticks are published, and so many of them are
-- done: of all pieces but the last, at least.
pub record IsTape (stored left ticks done : ℕ) (l : BoardLog) : Type 0 where
  pub bytes : length (taken_in l) + left ≡ stored
  pub marks : (n : ℕ) → MarkedPast n (marked_in (link_steps l)) → n < stored
  pub ticks_are : ring.ticks_published (sent_in l) ≡ ticks
  pub known : known_in l ≤ done
  pub below : done ≤ ticks
  pub few : ring.unfinished_in (sent_in l) done ≤ 1

-- a reset is worked on one with three bytes, between two turns
abbrev pub IsWorkedOn : (left ticks done : ℕ) → ResetWork → Type 0
IsWorkedOn left ticks done it = (blocks : ℕ) × (state : State) × (es : NewestFirst Closed) × (h : Journal) × (w : Work) × IsBetween (IsTape 3 left ticks done) it blocks state es h w
