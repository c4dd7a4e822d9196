-- The bytes that a board took, epoch by epoch.
use Rattle.std.specs.Prelude.{ℕ, ◌+◌, cond, List, [], ◌∷◌, ◌++◌}
use Rattle.step_line.specs.Logs.{NewestFirst}
use Rattle.board_journal.specs.Ports.{PortStep, BoardLog, taken_in, asks_reset}
use Rattle.board_journal.specs.Ports.PortStep.{took_exec}
use Rattle.board_journal.specs.Steps.{port_log, taken_of}
use Rattle.board_epochs.specs.Epochs.{Closed, Epochs}
use Rattle.board_epochs.specs.Epochs.Epochs.{goes, resets}
use Rattle.epoch_links.specs.Pieces.{Pieces}

-- those of an epoch that a reset has ended: its journal's, and those that the work of the reset took
abbrev pub taken_closed : Closed → List ℕ
taken_closed e = taken_of e.journal ++ taken_in (port_log e.work)

-- those of closed epochs, the first epoch first
abbrev pub taken_before : NewestFirst Closed → List (List ℕ)
taken_before [] = []
taken_before (e ∷ es) = taken_before es ++ taken_closed e ∷ []

-- Closed epochs' bytes, and those of the one that is open, or whose reset is being worked.
abbrev pub taken_by : Epochs → Pieces
taken_by (goes es h) = record { closed = taken_before es; last = taken_of h }
taken_by (resets es h w) = record { closed = taken_before es; last = taken_of h ++ taken_in (port_log w) }

-- ---- what asks for resets

abbrev pub asks_at : PortStep → ℕ → ℕ
asks_at (took_exec word) n = cond (asks_reset word) (n + 1) n
asks_at e n = n

-- how many words that ask for a reset were taken
abbrev pub resets_asked : BoardLog → ℕ
resets_asked [] = 0
resets_asked (e ∷ l) = asks_at e (resets_asked l)
