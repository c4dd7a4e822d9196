-- What the fields of a controller say of what it has done, epoch by epoch.
use Rattle.std.specs.Prelude.{◌≡◌, ◌⊎◌, ℕ, ◌+◌, ◌-◌, ◌<◌, true, false, Some, None, [], ◌∷◌, ◌++◌, List}
use Rattle.std.specs.List.{list_any}
use Rattle.std.specs.declared.option.Option.{Option}
use Rattle.outside.specs.declared.Turn.{Turn}
use Rattle.outside.specs.declared.Turn.TheVariants.{Did}
use Rattle.run_rules.specs.declared.State.{State}
use Rattle.run_rules.specs.States.{IsOpening}
use Rattle.status_report.specs.declared.Reply.{Reply}
use Rattle.status_report.specs.declared.Reply.TheVariants.{Banner}
use Rattle.step_line.specs.Logs.{NewestFirst}
use Rattle.board_rules.specs.Conduct.{IsFinished}
use Rattle.board_journal.specs.Steps.{Step, Journal, answered_of}
use Rattle.board_journal.specs.Steps.Step.{turned}
use Rattle.board_rules.specs.Turns.{this_turn, moving, ends_turn, lacks_reply_room}
use Rattle.board_epochs.specs.Epochs.{Closed, Epochs, AreEpochs, closed_log, last_line, log_behind, opening_behind}
use Rattle.board_epochs.specs.Epochs.Epochs.{goes, resets}
use Rattle.board_epochs.specs.Resets.{MayReset}
use Rattle.board_epochs.specs.Work.{Work, IsWorked}
use Rattle.reset_work.specs.Counting.{IsCounted}
use Rattle.reset_work.specs.Working.{IsWorking, number_of}
use Rattle.reset_work.specs.declared.reset.ResetWork.{ResetWork}
use Rattle.board_turns.specs.declared.board.Board.{Board}
pub use Rattle.board_turns.specs.Boards.{EpochFits, BoardIsOver}
use Rattle.board_turns.specs.Boards.{board_number}
use Rattle.controller.specs.declared.controller.Controller.{Controller}

-- ---- what the fields say

-- The open epoch goes on from a run's first state: it keeps to its rules behind the closed ones, the board fits it from where it opens, and
-- no reset may be worked now.
pub record GoesFits {N : ℕ} (state : State) (c : Controller N) (es : NewestFirst Closed) (h : Journal) : Type 0 where
  pub epochs : AreEpochs (N - 1) state (goes es h)
  pub none : c.reset ≡ None
  pub board : EpochFits (opening_behind (N - 1) state es) c.board h
  pub counts : IsCounted c.counts es
  pub unready : MayReset (opening_behind (N - 1) state es) h → ⊥

-- A reset is being worked behind it, and is not worked whole. The board is as the epoch has left it.
pub record ResetsFits {N : ℕ} (state : State) (c : Controller N) (es : NewestFirst Closed) (h : Journal) (w : Work) : Type 0 where
  pub epochs : AreEpochs (N - 1) state (resets es h w)
  pub work : ResetWork
  pub works : c.reset ≡ Some work
  pub board : EpochFits (opening_behind (N - 1) state es) c.board h
  pub counts : IsCounted c.counts es
  pub working : IsWorking work (last_line (opening_behind (N - 1) state es) h) (log_behind (closed_log es) h) w
  pub unworked : IsWorked (log_behind (closed_log es) h) w → ⊥

-- what they say of all that it did from this state on
abbrev pub FitsFrom : {N : ℕ} → State → Controller N → Epochs → Type 0
FitsFrom state c (goes es h) = GoesFits state c es h
FitsFrom state c (resets es h w) = ResetsFits state c es h w

-- a run begins with an opening state
abbrev pub BoardFits : {N : ℕ} → Controller N → Epochs → Type 0
BoardFits c e = (state : State) × IsOpening state × FitsFrom state c e

-- ---- whether it is over

-- a run is over with its board, and not while a reset is worked
abbrev pub rests_at : {N : ℕ} → Option ResetWork → Board N → Type 0
rests_at None board = BoardIsOver board
rests_at (Some work) board = ⊥

-- a controller whose run is over: nothing is left to do
abbrev pub BoardRests : {N : ℕ} → Controller N → Type 0
BoardRests c = rests_at c.reset c.board

-- epochs of which the open one is closed by its end, and nothing is left to do
abbrev pub HaveFinished : (blocks : ℕ) → State → Epochs → Type 0
HaveFinished blocks state (goes es h) = IsFinished (opening_behind blocks state es) h
HaveFinished blocks state (resets es h w) = ⊥

-- ---- a turn

-- what was done last: in the open epoch, or for the reset that is being worked
abbrev pub latest : Epochs → Journal
latest (goes es h) = h
latest (resets es h w) = w

-- between two turns
abbrev pub IsBetween : Epochs → Type 0
IsBetween e = this_turn (latest e) ≡ []

-- what a turn did, and its answer, are added to that
abbrev pub added : Turn → List Step → Epochs → Epochs
added t steps (goes es h) = goes es (turned t ∷ (steps ++ h))
added t steps (resets es h w) = resets es h (turned t ∷ (steps ++ w))

-- a reset is worked from now on, or the next epoch begins behind it; neither does anything
abbrev pub parted : Epochs → Epochs
parted (goes es h) = resets es h []
parted (resets es h w) = goes (record { journal = h; work = w } ∷ es) []

-- so much is counted beside a board's own number while its epoch goes on: a reset's work begins below that
abbrev pub going_number : ℕ
going_number = 15

-- the number of the work, if there is one
abbrev pub work_number : Option ResetWork → ℕ
work_number None = 0
work_number (Some work) = number_of work

-- the number of a board, which no state changes
abbrev pub number_in : {N : ℕ} → State → Controller N → Epochs → ℕ
number_in {N} state c (goes es h) = going_number + board_number (opening_behind (N - 1) state es) c.board h
number_in state c (resets es h w) = work_number c.reset

-- A turn adds what was done in it, which ends no other turn, and its answer. Behind that a reset is worked as soon as it may be, and the next epoch begins as soon as
-- it is worked. Where the answer is Did, something moves, or the board's number falls.
pub record BoardTurned {N : ℕ} (t : Turn) (was is : Controller N) (e next : Epochs) : Type 0 where
  pub steps : List Step
  pub are : (next ≡ added t steps e) ⊎ (next ≡ parted (added t steps e))
  pub inner : list_any ends_turn steps ≡ false
  pub moves : t ≡ Did → (list_any moving (this_turn (steps ++ latest e)) ≡ true) ⊎ ((state : State) → number_in state is next < number_in state was e)

-- ---- the first turn

-- the journal of the open epoch, or of the one behind which a reset is worked
abbrev pub epoch_of : Epochs → Journal
epoch_of (goes es h) = h
epoch_of (resets es h w) = h

-- the banner was told, before any other reply, unless that was handed back for want of room
abbrev pub GreetsFirst : Journal → Type 0
GreetsFirst h = ((behind : List Reply) × (answered_of h ≡ Banner ∷ behind)) ⊎ (list_any lacks_reply_room h ≡ true)
