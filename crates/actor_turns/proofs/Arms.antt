-- What a turn of one actor makes of what was done.
use Rattle.std.proofs.Common.{◌≡◌, ◌∙◌, ℕ, List, [], refl}
use Rattle.outside.specs.Causes.{SourceState, SinkState}
use Rattle.outside.specs.declared.Actor.{Actor}
use Rattle.outside.specs.declared.Actor.TheVariants as actors
use Rattle.outside.specs.declared.Turn.{Turn}
use Rattle.step_line.specs.declared.Record.{Record}
use Rattle.stream_host.specs.declared.host.Host.{Host}
use Rattle.host_journal.specs.Steps.{Journal as HostJournal, port_log as host_log, HostLog}
use Rattle.stream_host.specs.Hosts.{HostFits, HostTurned, HostTellsOn}
use Rattle.stream_host.specs.Hosts.{IsBetween as IsBetweenOfHost}
use Rattle.board_journal.specs.Ports.{BoardLog}
use Rattle.board_epochs.specs.Epochs.{Epochs, log_of as board_log}
use Rattle.controller.specs.declared.controller.Controller.{Controller}
use Rattle.controller.specs.Boards.{BoardFits, BoardTurned}
use Rattle.controller.specs.Boards.{IsBetween as IsBetweenOfBoard}
use Rattle.pulse_engine.specs.Logs.{PieceLog, RecordLog}
use Rattle.pulse_engine.specs.Turns.{PulseTurned}
use Rattle.motion_pulse.specs.declared.pulse.MotionPulse.{MotionPulse}
use Rattle.motion_pulse.specs.Pulses.{MotionFits, stepping_of}
use Rattle.step_record.specs.Taking.{Log}
use Rattle.step_record.specs.Recording.{Recording, RecorderFitsOn, RecorderTurned}
use Rattle.list_ports.specs.Passing.{HandsOn}
use Rattle.list_ports.specs.Joining.{Listed, Joined}
use Rattle.actor_turns.specs.Worlds.{Seen, History, Holds, HasHistory, Devices, devices, Adds, TurnsOn}

-- what the actors tell of the devices, whatever the moment since
pub record TellsOn {N : ℕ} (before after : Devices) (w w' : Seen N) (hist next : History) : Type 0 where
  pub host : HostTellsOn w.host w'.host hist.host next.host before.job after.job before.console after.console
  pub recorder : RecorderFitsOn w.recorder w'.recorder hist.takes next.takes before.steps after.steps

-- whatever was done, there is what was done after
pub record Moves {N : ℕ} (actor : Actor) (t : Turn) (before after : Devices) (w w' : Seen N) : Type 0 where
  pub on : (hist : History) → Holds w hist → (next : History) × Holds w' next × TellsOn before after w w' hist next × Adds actor t w w' hist next

pub holds_on : {N : ℕ} (actor : Actor) (t : Turn) (before after : Devices) (w w' : Seen N) → Moves actor t before after w w' → HasHistory w → HasHistory w'
holds_on actor t before after w w' m has = let n = m.on has.0 has.1 in (n.0, n.1)

pub turns_on : {N : ℕ} (actor : Actor) (t : Turn) (before after : Devices) (w w' : Seen N) → Moves actor t before after w w' → TurnsOn actor t before after w w'
turns_on actor t before after w w' m = record {
  on = λ form was hist st. let n = m.on hist st.holds in (
    n.0,
    record {
      holds = n.1;
      job = n.2.host.job was.job st.job;
      console = n.2.host.console was.console st.console;
      wrote = n.2.recorder.on form was.steps st.wrote;
    },
    n.3,
  );
}

pub host_moves : {N : ℕ} (w : Seen N) (host' : Host) (lists' : Listed) (t : Turn) (job job' : SourceState) (console console' steps : SinkState)
    → ((far : BoardLog × PieceLog) (h : HostJournal) → Joined w.lists (host_log h) far.0 far.1 → HostFits w.room w.host h → IsBetweenOfHost h
    → (next : HostJournal) × Joined lists' (host_log next) far.0 far.1 × HostFits w.room host' next × IsBetweenOfHost next × HostTurned t w.host host' h next × HostTellsOn w.host host' h next job job' console console')
    → Moves actors.Host t (devices job console steps) (devices job' console' steps) w (record w { host = host'; lists = lists' })
host_moves w host' lists' t job job' console console' steps turns = record {
  on = λ hist h. let n = turns (board_log hist.board, hist.pulse) hist.host h.joined h.host h.host_between in (
    record hist { host = n.0 },
    record { joined = n.1; passed = h.passed; host = n.2; host_between = n.3; board = h.board; board_between = h.board_between; pulse = h.pulse; stepping = h.stepping },
    record { host = n.5; recorder = record { on = λ form was r. r } },
    (refl, n.4),
  );
}

pub board_moves : {N : ℕ} (w : Seen N) (board' : Controller N) (lists' : Listed) (t : Turn) (now : Devices)
    → ((far : HostLog × PieceLog) (h : Epochs) → Joined w.lists far.0 (board_log h) far.1 → BoardFits w.board h → IsBetweenOfBoard h
    → (next : Epochs) × Joined lists' far.0 (board_log next) far.1 × BoardFits board' next × IsBetweenOfBoard next × BoardTurned t w.board board' h next)
    → Moves actors.Board t now now w (record w { board = board'; lists = lists' })
board_moves w board' lists' t now turns = record {
  on = λ hist h. let n = turns (host_log hist.host, hist.pulse) hist.board h.joined h.board h.board_between in (
    record hist { board = n.0 },
    record { joined = n.1; passed = h.passed; host = h.host; host_between = h.host_between; board = n.2; board_between = n.3; pulse = h.pulse; stepping = h.stepping },
    record { host = record { job = λ was x. x; console = λ was x. x }; recorder = record { on = λ form was r. r } },
    (refl, n.4),
  );
}

pub pulse_moves : {N : ℕ} (w : Seen N) (pulse' : MotionPulse) (lists' : Listed) (waiting' : List Record) (t : Turn) (now : Devices)
    → ((far : HostLog × BoardLog) (back : Log) (h : PieceLog) (k : RecordLog) → Joined w.lists far.0 far.1 h → HandsOn w.waiting k back → MotionFits w.pulse h k
    → (h' : PieceLog) × (k' : RecordLog) × Joined lists' far.0 far.1 h' × HandsOn waiting' k' back × MotionFits pulse' h' k' × PulseTurned t h k h' k')
    → stepping_of pulse' ≡ stepping_of w.pulse
    → Moves actors.Pulse t now now w (record w { pulse = pulse'; lists = lists'; waiting = waiting' })
pulse_moves w pulse' lists' waiting' t now turns same = record {
  on = λ hist h. let n = turns (host_log hist.host, board_log hist.board) hist.takes hist.pulse hist.puts h.joined h.passed h.pulse in (
    record hist { pulse = n.0; puts = n.1 },
    record { joined = n.2; passed = n.3; host = h.host; host_between = h.host_between; board = h.board; board_between = h.board_between; pulse = n.4; stepping = same ∙ h.stepping },
    record { host = record { job = λ was x. x; console = λ was x. x }; recorder = record { on = λ form was r. r } },
    (refl, n.5),
  );
}

pub recorder_moves : {N : ℕ} (w : Seen N) (recorder' : Recording) (waiting' : List Record) (t : Turn) (job : SourceState) (console steps steps' : SinkState)
    → ((far : RecordLog) (log : Log) → HandsOn w.waiting far log
    → (next : Log) × HandsOn waiting' far next × RecorderFitsOn w.recorder recorder' log next steps steps' × RecorderTurned t w.recorder recorder' log next)
    → Moves actors.Record t (devices job console steps) (devices job console steps') w (record w { recorder = recorder'; waiting = waiting' })
recorder_moves w recorder' waiting' t job console steps steps' turns = record {
  on = λ hist h. let n = turns hist.puts hist.takes h.passed in (
    record hist { takes = n.0 },
    record { joined = h.joined; passed = n.1; host = h.host; host_between = h.host_between; board = h.board; board_between = h.board_between; pulse = h.pulse; stepping = h.stepping },
    record { host = record { job = λ was x. x; console = λ was x. x }; recorder = n.2 },
    (refl, n.3),
  );
}
