-- The epochs of a board, as the pulse has them.
use Rattle.std.specs.Prelude.{ℕ, ◌-◌, Bool, true, false, not, List, [], ◌∷◌, ◌++◌, map, reverse}
use Rattle.std.specs.List.{filter}
use Rattle.motion_ring.specs.Sides as ring
use Rattle.motion_ring.specs.declared.lists.Sent.{Sent}
use Rattle.run_rules.specs.declared.State.{State}
use Rattle.step_line.specs.Finishing.{ticks_together}
use Rattle.step_line.specs.Logs.{NewestFirst}
use Rattle.step_line.specs.declared.Mark.TheVariants as marks
use Rattle.step_line.specs.declared.Piece.{Piece}
use Rattle.step_line.specs.declared.Piece.TheVariants as pieces
use Rattle.board_journal.specs.Openings.{Opening}
use Rattle.board_journal.specs.Steps.{Journal, published_of, planned_of}
use Rattle.board_epochs.specs.Epochs.{Closed, Epochs, closed_log, log_behind, opening_behind, last_line, ticks_made}
use Rattle.board_epochs.specs.Epochs.Epochs.{goes, resets}
use Rattle.board_epochs.specs.Work.{Work, Stage, stage_of, halted_in}
use Rattle.board_epochs.specs.Work.Stage.{drops_changes, awaits_mark, stops, awaits_halt, drops, publishes, awaits_done, over}
use Rattle.epoch_courses.specs.Course.{made_at_halt}
use Rattle.epoch_records.specs.Epochs.{Epoch}
use Rattle.epoch_records.specs.SoFar.{Phase}
use Rattle.epoch_records.specs.SoFar.Phase.{is_going, is_stopping, is_halted}

-- One that a reset has ended: the pieces that were published in it, how many of their ticks were made at the halt, and the mark of
-- the reset.
abbrev pub reset_epoch : (base : ℕ) → Opening → Journal → Work → Epoch
reset_epoch base first h w = record { pieces = published_of h; done = made_at_halt base w; closing = pieces.Mark (marks.Reset (last_line first h)) }

-- the last one of a run that is done: all that the plan gave, and the end
abbrev pub last_epoch : Journal → Epoch
last_epoch h = record { pieces = planned_of h; done = ticks_together (planned_of h); closing = pieces.End }

abbrev pub closed_epochs : (blocks : ℕ) → State → NewestFirst Closed → List Epoch
closed_epochs blocks state [] = []
closed_epochs blocks state (e ∷ es) = closed_epochs blocks state es ++ reset_epoch (ticks_made es) (opening_behind blocks state es) e.journal e.work ∷ []

abbrev pub epochs_of : (blocks : ℕ) → State → NewestFirst Closed → Journal → List Epoch
epochs_of blocks state es h = closed_epochs blocks state es ++ last_epoch h ∷ []

-- ---- so far

abbrev pub is_end : Piece → Bool
is_end pieces.End = true
is_end p = false

-- the end is no piece of an epoch: it ends one
abbrev pub without_end : List Piece → List Piece
without_end ps = filter (λ p. not (is_end p)) ps

-- the open epoch, of which so many ticks are made
abbrev pub open_epoch : (made : ℕ) → Journal → Epoch
open_epoch made h = record { pieces = without_end (published_of h); done = made; closing = pieces.End }

abbrev pub epochs_so_far : (blocks : ℕ) → State → (made : ℕ) → Epochs → List Epoch
epochs_so_far blocks state made (goes es h) = closed_epochs blocks state es ++ open_epoch made h ∷ []
epochs_so_far blocks state made (resets es h w) = closed_epochs blocks state es ++ open_epoch made h ∷ []

-- how far the reset of the open epoch is
abbrev pub phase_at : Stage → Phase
phase_at drops_changes = is_going
phase_at awaits_mark = is_going
phase_at (stops n) = is_going
phase_at (awaits_halt n) = is_stopping
phase_at (drops n) = is_halted
phase_at publishes = is_halted
phase_at awaits_done = is_halted
phase_at over = is_halted

abbrev pub phase_of : Epochs → Phase
phase_of (goes es h) = is_going
phase_of (resets es h w) = phase_at (stage_of (log_behind (closed_log es) h) w)

-- how many ticks of the open epoch are made, where so many are made in all: once it is halted those made by then
abbrev pub made_in : Phase → (ticks base halted : ℕ) → ℕ
made_in is_going ticks base halted = ticks - base
made_in is_stopping ticks base halted = ticks - base
made_in is_halted ticks base halted = halted - base

abbrev pub made_of : (ticks : ℕ) → Epochs → ℕ
made_of ticks (goes es h) = ticks - ticks_made es
made_of ticks (resets es h w) = made_in (phase_of (resets es h w)) ticks (ticks_made es) (halted_in w)

-- the number of the line that was begun last, which the mark of the open epoch's reset has
abbrev pub number_of : (blocks : ℕ) → State → Epochs → ℕ
number_of blocks state (goes es h) = last_line (opening_behind blocks state es) h
number_of blocks state (resets es h w) = last_line (opening_behind blocks state es) h

-- the epochs before the open one
abbrev pub closed_of : (blocks : ℕ) → State → Epochs → List Epoch
closed_of blocks state (goes es h) = closed_epochs blocks state es
closed_of blocks state (resets es h w) = closed_epochs blocks state es

-- ---- as the ring has them

-- the halts that were seen, the latest first: of each how many pieces were published up to it, and how many ticks were done
abbrev pub halts_seen : Sent → NewestFirst (ℕ × ℕ)
halts_seen s = map (λ halt. (halt.pieces, halt.done)) s.halts

-- the pieces published, the oldest first
abbrev pub pieces_sent : Sent → List Piece
pieces_sent s = reverse (ring.published_in s)
