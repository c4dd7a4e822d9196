-- What a board has answered over its epochs, and what it is to tell yet.
use Rattle.std.specs.Prelude.{ℕ, not, List, []}
use Rattle.std.specs.List.{filter}
use Rattle.run_rules.specs.declared.State.{State}
use Rattle.run_rules.specs.Work.{tells}
use Rattle.status_report.specs.Answering.{is_bye}
use Rattle.status_report.specs.declared.Reply.{Reply}
use Rattle.board_journal.specs.Ports.{answered_in}
use Rattle.board_journal.specs.Steps.{left_of, closed_tells}
use Rattle.board_epochs.specs.Epochs.{Epochs, opening_behind, log_of}
use Rattle.board_epochs.specs.Epochs.Epochs.{goes, resets}

-- what was answered, in order, with reports
abbrev pub answered_by : Epochs → List Reply
answered_by es = answered_in (log_of es)

-- Bye is no reply of a course: it ends the run
abbrev pub without_byes : List Reply → List Reply
without_byes replies = filter (λ r. not (is_bye r)) replies

-- what is to be told yet; by a board that works a reset nothing is
abbrev pub untold_by : (blocks : ℕ) → State → Epochs → List Reply
untold_by blocks state (goes es h) = tells (left_of (opening_behind blocks state es) h)
untold_by blocks state (resets es h w) = []

-- what closing the run tells
abbrev pub closing_by : Epochs → List Reply
closing_by (goes es h) = closed_tells h
closing_by (resets es h w) = []
