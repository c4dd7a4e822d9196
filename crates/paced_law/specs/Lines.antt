-- What the motion of a paced run goes on behind: the lines of the job come first.
use Rattle.std.specs.Prelude.{◌≡◌, ℕ, Bool, true, false, nat_eq, []}
use Rattle.std.specs.List.{list_any}
use Rattle.feed_hold.specs.Motions.{is_halting, is_stopping}
use Rattle.motion_ring.specs.Sides.{unfinished_in}
use Rattle.step_line.specs.Asking.Asked.{a_move}
use Rattle.step_line.specs.Finishing.{most_unfinished}
use Rattle.step_line.specs.declared.planned_move.PlannedMove.{PlannedMove}
use Rattle.run_rules.specs.Work.Task.{ask}
use Rattle.board_journal.specs.Openings.{Opening}
use Rattle.board_journal.specs.Ports.{sent_in}
use Rattle.board_journal.specs.Ports.PortStep.{no_piece_room}
use Rattle.board_journal.specs.Steps.{Step, Journal, port_log, left_of, closed_tells, plan_of, motion_of}
use Rattle.board_journal.specs.Steps.Step.{at_port}
use Rattle.board_rules.specs.Turns.{this_turn, found_nothing, lacks_reply_room, awaits_motion, is_full}
use Rattle.board_rules.specs.Conduct.{IsNextTask}

-- Lines that the job has sent are unread, and can go on: in its last turn the board has not found the link empty; what is next of the
-- lines that it took does not wait for the motion; no reply lacked room; the machine is not held, and does not slow down to a stop; and
-- the run is not closed.
pub record LinesGoOn (first : Opening) (h : Journal) : Type 0 where
  pub unread : list_any found_nothing (this_turn h) ≡ false
  pub free : awaits_motion (left_of first h) ≡ false
  pub room : list_any lacks_reply_room (this_turn h) ≡ false
  pub unheld : is_halting (motion_of first h) ≡ false
  pub unstopped : is_stopping (motion_of first h) ≡ false
  pub unclosed : closed_tells h ≡ []

-- a piece was handed back while so many ticks were done
abbrev pub hands_back : ℕ → Step → Bool
hands_back done (at_port (no_piece_room found)) = nat_eq done found
hands_back done _ = false

-- Five pieces stand on the ring: a sixth was handed back in this turn, while so many ticks were done, and of the pieces published
-- five are unfinished then.
pub record RingIsFull (h : Journal) : Type 0 where
  pub done : ℕ
  pub handed_back : list_any (hands_back done) (this_turn h) ≡ true
  pub five : unfinished_in (sent_in (port_log h)) done ≡ most_unfinished

-- Where the motion goes on, behind the last turn of a board: each move that is next is in the plan, unless that is full; and while lines
-- go on, five pieces stand on the ring.
pub record IsBehindLines (first : Opening) (h : Journal) : Type 0 where
  pub planned : (m : PlannedMove) → IsNextTask first (ask (a_move m)) h → is_full first.blocks (plan_of h) ≡ true
  pub five : LinesGoOn first h → RingIsFull h
