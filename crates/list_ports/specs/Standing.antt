-- What is said of lists in few words, between a board and a pulse: how much was published, and whether a stop waits.
use Rattle.std.specs.Prelude.{◌≡◌, ℕ, ◌≤◌, false, length}
use Rattle.step_line.specs.Ordering.{has_ended}
use Rattle.motion_ring.specs.Sides.{published_in, ticks_published}
use Rattle.board_journal.specs.Ports.{MayAskHalt, sent_in}
use Rattle.board_journal.specs.Ports.{BoardLog}
use Rattle.host_journal.specs.Steps.{HostLog}
use Rattle.pulse_engine.specs.Logs.{PieceLog, IsCounted}
use Rattle.list_ports.specs.Joining.{Listed, Joined}

-- no stop waits, no end was published, and at most so many ticks and pieces; each tick of the pieces that were got is counted
pub record HasPublished (n : ℕ) (lists : Listed) : Type 0 where
  pub host : HostLog
  pub board : BoardLog
  pub pulse : PieceLog
  pub joined : Joined lists host board pulse
  pub running : (sent_in board).waits ≡ false
  pub going : has_ended (published_in (sent_in board)) ≡ false
  pub few : ticks_published (sent_in board) ≤ n
  pub many : length (published_in (sent_in board)) ≤ n
  pub counted : IsCounted pulse

-- a stop waits for its halt, or for the board to find that, behind no end and at most so many ticks and pieces
pub record AwaitsHalt (n : ℕ) (lists : Listed) : Type 0 where
  pub host : HostLog
  pub board : BoardLog
  pub pulse : PieceLog
  pub joined : Joined lists host board pulse
  pub waits : MayAskHalt board
  pub going : has_ended (published_in (sent_in board)) ≡ false
  pub few : ticks_published (sent_in board) ≤ n
  pub many : length (published_in (sent_in board)) ≤ n
  pub counted : IsCounted pulse
