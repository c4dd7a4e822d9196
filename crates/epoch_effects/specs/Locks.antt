-- Which reports tell of an alarm in an epoch that may have begun locked.
use Rattle.std.specs.Prelude.{◌≡◌, ℕ, ◌+◌, ◌⊎◌, Bool, true, false, ◌&&◌, not, List, [], ◌∷◌, take}
use Rattle.std.specs.List.{list_any}
use Rattle.run_rules.specs.Reports.{raises_alarm}
use Rattle.run_rules.specs.Work.{Outcome, tells}
use Rattle.status_report.specs.Answering.{answers_in}
use Rattle.status_report.specs.declared.Message.TheVariants.{Unlocked}
use Rattle.status_report.specs.declared.Reply.{Reply}
use Rattle.status_report.specs.declared.Reply.TheVariants as replies
use Rattle.status_report.specs.declared.reports.Report.{Report}
use Rattle.status_report.specs.declared.reports.State.TheVariants as told

-- a line has unlocked the machine: it says so
abbrev pub says_unlocked : Reply → Bool
says_unlocked (replies.Message Unlocked) = true
says_unlocked r = false

abbrev pub has_unlocked : Outcome → Bool
has_unlocked o = list_any says_unlocked (tells o.work)

-- the machine is locked still behind these lines
abbrev pub locked_still : Bool → List Outcome → Bool
locked_still locked os = locked && not (list_any has_unlocked os)

-- A report behind k answers. It tells `Alarm` only where none of the k lines has unlocked the machine, or one up to line k + 1 has raised
-- an alarm; and it does tell it where none up to line k + 1 has unlocked it.
pub record ShowsLock (locked : Bool) (os : List Outcome) (k : ℕ) (r : Report) : Type 0 where
  pub alarm : r.state ≡ told.Alarm → (locked_still locked (take k os) ≡ true) ⊎ (list_any raises_alarm (take (k + 1) os) ≡ true)
  pub locks : locked_still locked (take (k + 1) os) ≡ true → r.state ≡ told.Alarm

-- each report among these replies, the latest first
abbrev pub ShowLocks : Bool → List Outcome → List Reply → Type 0
ShowLocks locked os [] = Unit {0}
ShowLocks locked os (replies.Report r ∷ earlier) = ShowsLock locked os (answers_in earlier) r × ShowLocks locked os earlier
ShowLocks locked os (_ ∷ earlier) = ShowLocks locked os earlier
