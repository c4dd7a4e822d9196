-- What the resets of a board drop.
use Rattle.std.specs.Prelude.{◌≡◌, ℕ, ◌+◌, ◌≤◌, List, [], ◌∷◌, length, drop}
use Rattle.std.specs.List.{AllByRecursion}
use Rattle.run_rules.specs.Lines.{ended, whole_lines}
use Rattle.run_texts.specs.Courses.{Passed}
use Rattle.run_texts.specs.Courses.Passed.{a_line, a_broken, a_cut, a_reset}
use Rattle.run_texts.specs.Fronts.{BeginsWith}
use Rattle.status_report.specs.Answering.{answers_in}
use Rattle.step_line.specs.Logs.{NewestFirst}
use Rattle.host_journal.specs.Steps as hosts
use Rattle.board_journal.specs.Ports.{answered_in}
use Rattle.board_journal.specs.Steps.{answered_of}
use Rattle.board_epochs.specs.Epochs.{Closed, Epochs, log_of}
use Rattle.board_epochs.specs.Epochs.Epochs.{goes, resets}
use Rattle.epoch_links.specs.Taken.{taken_closed}

-- the epochs that resets have ended
abbrev pub closed_of : Epochs → NewestFirst Closed
closed_of (goes es h) = es
closed_of (resets es h w) = es

-- the lines of such an epoch that have no answer: those behind its answered ones
abbrev pub dropped_by : Closed → List (List ℕ)
dropped_by e = drop (answers_in (answered_of e.journal)) (whole_lines (taken_closed e))

-- those of each take no more bytes than the link has room for, each with its LF
abbrev pub DropFew : (room : ℕ) → NewestFirst Closed → Type 0
DropFew room es = AllByRecursion (λ e. length (ended (dropped_by e)) ≤ room) es

-- how many lines these are together
abbrev pub lines_among : List (List (List ℕ)) → ℕ
lines_among [] = 0
lines_among (lines ∷ more) = length lines + lines_among more

-- the replies that a host has got are the first of those that a board has answered
abbrev pub AreAnsweredOver : hosts.Journal → Epochs → Type 0
AreAnsweredOver host r = BeginsWith (answered_in (log_of r)) (hosts.got_of host)

-- ---- by a course of the texts

abbrev pub AreCuts : List Passed → Type 0
AreCuts [] = Unit {0}
AreCuts (a_cut k at ∷ ps) = AreCuts ps
AreCuts (_ ∷ ps) = ⊥

-- What is passed of an epoch up to its reset answers the first of its lines, and leaves these to be dropped; the first of these may
-- be begun.
abbrev pub PassesLines : (lines : List (List ℕ)) → List Passed → (dropped : List (List ℕ)) → Type 0
PassesLines lines [] dropped = dropped ≡ lines
PassesLines lines (a_cut k at ∷ ps) dropped = PassesLines lines ps dropped
PassesLines lines (a_reset r ∷ ps) dropped = ⊥
PassesLines (l ∷ lines) (a_line o ∷ ps) dropped = PassesLines lines ps dropped
PassesLines (l ∷ lines) (a_broken o ∷ ps) dropped = (dropped ≡ l ∷ lines) × AreCuts ps
PassesLines [] (a_line o ∷ ps) dropped = ⊥
PassesLines [] (a_broken o ∷ ps) dropped = ⊥
