-- What the thread of the board has done at its ends.
use Rattle.std.specs.Prelude.{◌≡◌, ℕ, []}
use Rattle.serial_ring.specs.Ends.{link_of_board}
use Rattle.realtime_flags.specs.Ends.{taken_in}
use Rattle.motion_ring.specs.Ends.{ring_of_out}
use Rattle.board_epochs.specs.Epochs.{Epochs, log_of}
use Rattle.board_epochs.specs.Epochs.Epochs.{goes}
use Rattle.outside.specs.declared.Turn.{Turn}
use Rattle.controller.specs.Boards.{BoardFits, BoardTurned, BoardRests, GreetsFirst, epoch_of}
use Rattle.controller.specs.Boards.{IsBetween as IsBetweenOfBoard}
use Rattle.link_ports.specs.Standing.{BoardLogs, BoardSees}
use Rattle.thread_rig.specs.declared.board.BoardSide.{BoardSide}

-- ---- no turn was made

pub record BoardIsNew {room slots : ℕ} (side : BoardSide room slots) : Type 0 where
  pub did : BoardLogs side.link []
  pub sees : BoardSees side.link []
  pub fits : BoardFits side.board (goes [] [])

-- ---- turns were made

-- The board has, over its epochs, and what its ends took, answered, published and found of halts is what these say.
pub record BoardRunsAt {room slots : ℕ} (was is : BoardSide room slots) : Type 0 where
  pub epochs : Epochs
  pub link : link_of_board is.link.end ≡ link_of_board was.link.end
  pub flags : taken_in is.link.flags ≡ taken_in was.link.flags
  pub pieces : ring_of_out is.link.pieces ≡ ring_of_out was.link.pieces
  pub did : BoardLogs is.link (log_of epochs)
  pub sees : BoardSees is.link (log_of epochs)
  pub fits : BoardFits is.board epochs
  pub between : IsBetweenOfBoard epochs

-- It was one turn, the first: what it did is all that was done, and the board's rules allow it. The banner is told before any other
-- reply, unless it was handed back for want of room.
pub record BoardHasBegun {room slots : ℕ} (was is : BoardSide room slots) : Type 0 where
  pub runs : BoardRunsAt was is
  pub turn : Turn
  pub turned : BoardTurned turn was.board is.board (goes [] []) runs.epochs
  pub greets : GreetsFirst (epoch_of runs.epochs)

-- ---- and the board is done

pub record BoardRanAt {room slots : ℕ} (was is : BoardSide room slots) : Type 0 where
  pub runs : BoardRunsAt was is
  pub done : BoardRests is.board
