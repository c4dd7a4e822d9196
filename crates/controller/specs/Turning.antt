-- What a turn leaves of a controller, and of its port.
use Rattle.std.specs.Prelude.{ℕ, ◌-◌}
use Rattle.outside.specs.declared.Turn.{Turn}
use Rattle.run_rules.specs.declared.State.{State}
use Rattle.step_line.specs.Logs.{NewestFirst}
use Rattle.board_journal.specs.Ports.{BoardLog}
use Rattle.board_journal.specs.Steps.{Journal}
use Rattle.board_epochs.specs.Epochs.{Closed, Epochs, AreEpochs, log_of, opening_behind}
use Rattle.board_epochs.specs.Epochs.Epochs.{goes}
use Rattle.board_turns.specs.declared.board.Board.{Board}
use Rattle.board_turns.specs.Boards.{EpochFits, GoingBetween, GoingTurned}
use Rattle.controller.specs.declared.controller.Controller.{Controller}
use Rattle.controller.specs.Boards.{FitsFrom, BoardTurned, IsBetween}

-- the board has gone on in the open epoch, and its port stands for that; a reset may be worked then
pub record WentOn {N : ℕ} (stands : BoardLog → Type 0) (t : Turn) (state : State) (es : NewestFirst Closed) (was is : Board N) (h : Journal) : Type 0 where
  pub next : Journal
  pub port : stands (log_of (goes es next))
  pub epochs : AreEpochs (N - 1) state (goes es next)
  pub fits : EpochFits (opening_behind (N - 1) state es) is next
  pub between : GoingBetween next
  pub turned : GoingTurned (opening_behind (N - 1) state es) t was is h next

-- a controller has gone on
abbrev pub GoesOn : {N : ℕ} → (BoardLog → Type 0) → Turn → State → Controller N → Controller N → Epochs → Type 0
GoesOn stands t state was is e = (next : Epochs) × stands (log_of next) × FitsFrom state is next × IsBetween next × BoardTurned t was is e next
