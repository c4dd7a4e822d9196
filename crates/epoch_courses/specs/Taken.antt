-- What a board has taken over its epochs, as it comes to it of a job.
use Rattle.std.specs.Prelude.{ℕ, cond, List, [], ◌∷◌, ◌++◌}
use Rattle.run_texts.specs.Sent.{Sent}
pub use Rattle.run_texts.specs.Sent.{texts_in}
use Rattle.run_texts.specs.Sent.Sent.{a_stop}
use Rattle.step_line.specs.Logs.{NewestFirst}
use Rattle.board_journal.specs.Ports.{taken_in}
use Rattle.board_journal.specs.Steps.{Journal, port_log, taken_of, open_of, whole_of}
use Rattle.board_epochs.specs.Work.{Work}
use Rattle.board_epochs.specs.Epochs.{Closed, Epochs}
use Rattle.board_epochs.specs.Epochs.Epochs.{goes, resets}

-- What an epoch takes, and what the work of its reset takes and drops. A line that has no LF by then is none that was sent.
abbrev pub bytes_with : Journal → Work → List ℕ
bytes_with h w = taken_of h ++ taken_in (port_log w)

-- what closed epochs have taken: of each its lines, and then its reset
abbrev pub closed_texts : NewestFirst Closed → List Sent
closed_texts [] = []
closed_texts (e ∷ es) = closed_texts es ++ (texts_in (bytes_with e.journal e.work) ++ a_stop ∷ [])

-- What was taken in all. A reset that is being worked comes once it is worked.
abbrev pub sent_by : Epochs → List Sent
sent_by (goes es h) = closed_texts es ++ texts_in (taken_of h)
sent_by (resets es h w) = closed_texts es ++ texts_in (bytes_with h w)

-- the bytes of an epoch that stand behind the lines begun: a line, with its LF if it was taken whole
abbrev pub bytes_behind : Journal → List ℕ
bytes_behind h = open_of h ++ cond (whole_of h) (10 ∷ []) []

-- what is left of what was taken: the lines that are not begun
abbrev pub left_by : Epochs → List Sent
left_by (goes es h) = texts_in (bytes_behind h)
left_by (resets es h w) = texts_in (bytes_behind h ++ taken_in (port_log w))
