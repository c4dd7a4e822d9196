-- What reports tell of the lock, in an epoch that began locked.
use Rattle.std.specs.Prelude.{◌≡◌, ℕ, ◌+◌, true, false, List, [], ◌∷◌, take}
use Rattle.std.specs.List.{list_any}
use Rattle.run_rules.specs.Locking.{unlocks}
use Rattle.run_rules.specs.Reports.{raises_alarm}
use Rattle.run_rules.specs.Work.{Outcome}
use Rattle.status_report.specs.Answering.{answers_in}
use Rattle.status_report.specs.declared.Reply.{Reply}
use Rattle.status_report.specs.declared.Reply.TheVariants as replies
use Rattle.status_report.specs.declared.reports.Report.{Report}
use Rattle.status_report.specs.declared.reports.State.TheVariants as told
use Rattle.step_line.specs.Logs.{NewestFirst}

-- A report before which k of these lines were answered. It tells Alarm if none of the first k + 1 unlocks the machine. If one of
-- the first k does, it tells Alarm only if one of the first k + 1 raises one. Where line k + 1 is the one that unlocks, either may be told.
pub record TellsLock (lines : List (List ℕ)) (os : List Outcome) (k : ℕ) (r : Report) : Type 0 where
  pub locked : list_any unlocks (take (k + 1) lines) ≡ false → r.state ≡ told.Alarm
  pub unlocked : list_any unlocks (take k lines) ≡ true → r.state ≡ told.Alarm → list_any raises_alarm (take (k + 1) os) ≡ true

-- each report among some replies tells it
abbrev pub TellLock : List (List ℕ) → List Outcome → NewestFirst Reply → Type 0
TellLock lines os [] = Unit {0}
TellLock lines os (replies.Report r ∷ earlier) = TellsLock lines os (answers_in earlier) r × TellLock lines os earlier
TellLock lines os (r ∷ earlier) = TellLock lines os earlier
