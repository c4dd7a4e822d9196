-- A console, read reply by reply.
use Rattle.std.specs.Prelude.{◌≡◌, ◌<◌, ◌≤◌, ◌⊎◌, ℕ, ◌+◌, true, List, ◌++◌, length}
use Rattle.std.specs.List.{AllByRecursion}
use Rattle.std.specs.Io.KnownBytes.{Consumes}
use Rattle.outside.specs.Causes.{Rose, SourceState}
use Rattle.status_report.specs.Answering.{is_report}
use Rattle.status_report.specs.Replies.{reply_text}
use Rattle.status_report.specs.Reports.{IsReport, HasWidths}
use Rattle.status_report.specs.declared.Reply.{Reply}
use Rattle.status_report.specs.declared.Reply.TheVariants.{Report as Reporting}
use Rattle.status_report.specs.declared.reports.Report.{Report}
use Rattle.run_rules.specs.Told.{replies_text}
use Rattle.audit_rules.specs.Consoles.{IsOnConsole}
use Rattle.audit_readers.specs.Windows.{Window, ahead, look_ahead, too_long, KnowsEnd}

-- the window on it, and the place behind what was taken
pub record ConsoleRead : Type 0 where
  pub window : Window
  pub place : ℕ

-- so much waits that what begins it begins the text, and the other way round
abbrev pub LooksAhead : Window → Type 0
LooksAhead w = (look_ahead ≤ length w.waiting) ⊎ (w.ended ≡ true)

-- some reports were taken
pub record SkipsSome (old now : ConsoleRead) (before after : SourceState) : Type 0 where
  pub reports : List Reply
  pub each : AllByRecursion IsOnConsole reports
  pub are : AllByRecursion (λ r. is_report r ≡ true) reports
  pub text : Consumes (ahead old.window before) (ahead now.window after) (replies_text reports)
  pub place : now.place ≡ old.place + length (replies_text reports)
  pub known : KnowsEnd now.window after

-- the report that begins what waits was taken
pub record TakesReport (old now : ConsoleRead) : Type 0 where
  pub report : Report
  pub is : IsReport report
  pub widths : HasWidths report
  pub text : old.window.waiting ≡ reply_text (Reporting report) ++ now.window.waiting
  pub ended : now.window.ended ≡ old.window.ended
  pub place : now.place ≡ old.place + length (reply_text (Reporting report))

-- all reports were taken that stand next, unless the text is too long
pub record Skips (old now : ConsoleRead) (before after : SourceState) : Type 0 where
  pub some : SkipsSome old now before after
  pub looks : LooksAhead now.window
  pub none : now.place < too_long → (report : Report) (rest : List ℕ) → IsReport report → HasWidths report → now.window.waiting ≡ reply_text (Reporting report) ++ rest → ⊥
  pub same : after.faults ≡ before.faults

-- a read failed
pub record FailsToSkip (old now : ConsoleRead) (before after : SourceState) : Type 0 where
  pub some : SkipsSome old now before after
  pub rose : Rose before.faults after.faults
