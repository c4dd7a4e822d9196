-- What is said of a port in few words: how much it stored, owes, or published.
use Rattle.std.specs.Prelude.{◌≡◌, ℕ, ◌+◌, ◌≤◌, false, [], length}
use Rattle.serial_ring.specs.Logs.{answers_since, lfs_since}
use Rattle.step_line.specs.Ordering.{has_ended}
use Rattle.serial_ring.specs.Ends.{stored_by, closed_by, marks_by, got_by, greeted_by, moments_by, log_by, found_closed}
use Rattle.realtime_flags.specs.Ends.{raises_by, takes_by}
use Rattle.motion_ring.specs.Ends.{sent_by, known_by}
use Rattle.motion_ring.specs.Sides.{published_in, ticks_published}
use Rattle.host_journal.specs.Steps as host
use Rattle.host_journal.specs.Ports.{IsOpen}
use Rattle.board_journal.specs.Ports as board
use Rattle.link_ports.specs.declared.host.HostLink.{HostLink}
use Rattle.link_ports.specs.declared.board.BoardLink.{BoardLink}
use Rattle.link_ports.specs.Hosts.{HostDid, HostLooked}
use Rattle.link_ports.specs.Boards.{BoardDid, BoardLooked}

-- what a host's port did
abbrev pub HostLogs : {room : ℕ} → HostLink room → host.HostLog → Type 0
HostLogs port h = HostDid (stored_by port.end) (marks_by port.end) (closed_by port.end) (got_by port.end) (greeted_by port.end) (raises_by port.flags) (moments_by port.end) h

-- how often it looked, and what it saw
abbrev pub HostSees : {room : ℕ} → HostLink room → host.HostLog → Type 0
HostSees port h = HostLooked port.end h

-- what a board's port did
abbrev pub BoardLogs : {room : ℕ} → BoardLink room → board.BoardLog → Type 0
BoardLogs port l = BoardDid (log_by port.end) (found_closed port.end) (takes_by port.flags) (sent_by port.pieces) (known_by port.pieces) l

-- how often it looked, and what it saw
abbrev pub BoardSees : {room : ℕ} → BoardLink room → board.BoardLog → Type 0
BoardSees port l = BoardLooked port.end port.pieces l

-- the link is open, at most so many bytes were stored, and no mark
pub record IsOpenBehind {room : ℕ} (n : ℕ) (port : HostLink room) : Type 0 where
  pub log : host.HostLog
  pub did : HostLogs port log
  pub sees : HostSees port log
  pub going : IsOpen log
  pub few : length (host.stored_in log) ≤ n
  pub unmarked : host.marks_in log ≡ []

-- since the last Banner so many lines or more wait for an answer, and at most so many replies were answered
pub record OwesAnswers {room : ℕ} (owed n : ℕ) (port : BoardLink room) : Type 0 where
  pub log : board.BoardLog
  pub did : BoardLogs port log
  pub sees : BoardSees port log
  pub owes : answers_since (board.link_steps log) + owed ≤ lfs_since (board.link_steps log)
  pub few : length (board.answered_in log) ≤ n

-- no stop waits, no end was published, and at most so many ticks and pieces
pub record HasPublished {room : ℕ} (n : ℕ) (port : BoardLink room) : Type 0 where
  pub log : board.BoardLog
  pub did : BoardLogs port log
  pub sees : BoardSees port log
  pub running : (board.sent_in log).waits ≡ false
  pub going : has_ended (published_in (board.sent_in log)) ≡ false
  pub few : ticks_published (board.sent_in log) ≤ n
  pub many : length (published_in (board.sent_in log)) ≤ n

-- a stop waits for its halt, behind no end and at most so many ticks and pieces
pub record AwaitsHalt {room : ℕ} (n : ℕ) (port : BoardLink room) : Type 0 where
  pub log : board.BoardLog
  pub did : BoardLogs port log
  pub sees : BoardSees port log
  pub waits : board.MayAskHalt log
  pub going : has_ended (published_in (board.sent_in log)) ≡ false
  pub few : ticks_published (board.sent_in log) ≤ n
  pub many : length (published_in (board.sent_in log)) ≤ n
