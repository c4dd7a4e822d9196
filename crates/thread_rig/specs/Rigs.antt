-- What a rig stands for: its actors, each with its ends, and how the ends hang together.
use Rattle.std.specs.Prelude.{◌≡◌, ℕ, List, ◌++◌}
use Rattle.rtrb.specs.Ring.{sent, received, IsPair}
use Rattle.step_line.specs.declared.Record.{Record as AnyRecord}
use Rattle.serial_ring.specs.Ends.{link_of_host, link_of_board, stored_by, marks_by, closed_by, got_by, greeted_by, moments_by, log_by, found_closed}
use Rattle.serial_ring.specs.Rule.{AreTied}
use Rattle.realtime_flags.specs.Ends.{raised_in, taken_in, raises_by, takes_by}
use Rattle.realtime_flags.specs.Bits.{IsBalanced}
use Rattle.motion_ring.specs.Ends.{ring_of_out, ring_of_in, sent_by, known_by}
use Rattle.motion_ring.specs.Ends.{taken_by as pieces_taken_by}
use Rattle.motion_ring.specs.Rule.{PiecesAreTied}
use Rattle.host_journal.specs.Steps.{Journal as HostJournal}
use Rattle.stream_host.specs.Hosts.{HostFits}
use Rattle.stream_host.specs.Ran.{end_of}
use Rattle.run_law.specs.declared.RunEnd.{RunEnd}
use Rattle.run_law.specs.Runs.{run_end}
use Rattle.thread_rig.specs.declared.rig.Rig.{Rig}
use Rattle.run_law.specs.Devices.{Devices}
use Rattle.thread_rig.specs.HostSides.{HostIsNew, HostRanAt}
use Rattle.thread_rig.specs.MotionSides.{PulseIsNew, PulseRanAt, RecorderIsNew, RecorderRanAt}
use Rattle.thread_rig.specs.BoardSides.{BoardIsNew, BoardRanAt}

-- the ends of a rig are those of one link, of one table of flags, of one ring of pieces and of one of records
pub record EndsMeet {room slots : ℕ} (rig : Rig room slots) : Type 0 where
  pub link : link_of_host rig.host.side.link.end ≡ link_of_board rig.board.side.link.end
  pub flags : raised_in rig.host.side.link.flags ≡ taken_in rig.board.side.link.flags
  pub pieces : ring_of_out rig.board.side.link.pieces ≡ ring_of_in rig.pulse.side.pieces.end
  pub records : IsPair rig.pulse.side.records.end rig.recorder.side.records.end

-- no turn was made with a rig
pub record IsNew {room slots : ℕ} (rig : Rig room slots) : Type 0 where
  pub meets : EndsMeet rig
  pub host : HostIsNew rig.host.side
  pub board : BoardIsNew rig.board.side
  pub pulse : PulseIsNew rig.pulse.side
  pub recorder : RecorderIsNew rig.recorder.side

-- The actors of a rig have run, each over the lists of its ends, until each was done: since the devices told one thing, up to
-- where they tell another. What is answered is what the host tells, and whether a write of the steps failed.
pub record RigRan {room slots : ℕ} (before after : Devices) (was is : Rig room slots) (end : RunEnd) : Type 0 where
  pub host : HostRanAt before.job after.job before.console after.console was.host.side is.host.side
  pub board : BoardRanAt was.board.side is.board.side
  pub pulse : PulseRanAt was.pulse.side is.pulse.side
  pub recorder : RecorderRanAt before.steps after.steps was.recorder.side is.recorder.side
  pub tells : (h : HostJournal) → HostFits room is.host.side.host h → end ≡ run_end (end_of h) is.recorder.side.recorder.writer.failed

-- What one side has got is a front of what the other gave, each mark that was loaded was stored, and each flag that was raised is
-- taken once or is up. (The lists of bytes, marks, replies, flags and pieces have the latest first.)
pub record EndsAgree {room slots : ℕ} (rig : Rig room slots) : Type 0 where
  pub link : AreTied room (stored_by rig.host.side.link.end) (marks_by rig.host.side.link.end) (closed_by rig.host.side.link.end) (log_by rig.board.side.link.end)
      (found_closed rig.board.side.link.end) (got_by rig.host.side.link.end) (greeted_by rig.host.side.link.end) (moments_by rig.host.side.link.end)
  pub words : List ℕ
  pub flags : IsBalanced words (raises_by rig.host.side.link.flags) (takes_by rig.board.side.link.flags)
  pub pieces : PiecesAreTied (sent_by rig.board.side.link.pieces) (known_by rig.board.side.link.pieces) (pieces_taken_by rig.pulse.side.pieces.end)
  pub untaken : List AnyRecord
  pub records : sent rig.pulse.side.records.end ≡ received rig.recorder.side.records.end ++ untaken
