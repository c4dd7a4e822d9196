-- What a world stands for: its actors, the lists between them, and what was done.
use Rattle.std.specs.Prelude.{◌≡◌, ◌⊎◌, ℕ, ◌+◌, ◌≤◌, Bool, true, false, List, [], ◌∷◌, ◌++◌, length, reverse}
use Rattle.outside.specs.declared.Actor.{Actor}
use Rattle.outside.specs.declared.Actor.TheVariants as actors
use Rattle.outside.specs.declared.Turn.{Turn}
use Rattle.step_line.specs.declared.Record.{Record as AnyRecord}
use Rattle.stream_host.specs.declared.host.Host.{Host}
use Rattle.host_journal.specs.Steps.{Journal as HostJournal, port_log as host_log, beginning, stored_of, marks_of, got_of}
use Rattle.host_journal.specs.Raises.{raises_in}
use Rattle.stream_host.specs.Hosts.{HostFits, HostTurned, HostRests, TellsJob, TellsText}
use Rattle.stream_host.specs.Hosts.{IsBetween as IsBetweenOfHost}
use Rattle.stream_host.specs.Ran.{end_of}
use Rattle.board_journal.specs.Ports.{link_steps, taken_in, answered_in, sent_in}
use Rattle.board_journal.specs.Takes.{takes_in}
use Rattle.board_epochs.specs.Epochs.{Epochs, log_of as board_log}
use Rattle.board_epochs.specs.Epochs.Epochs.{goes}
use Rattle.epoch_runs.specs.Epochs.{halts_seen, pieces_sent}
use Rattle.controller.specs.declared.controller.Controller.{Controller}
use Rattle.controller.specs.Boards.{BoardFits, BoardTurned, BoardRests}
use Rattle.controller.specs.Boards.{IsBetween as IsBetweenOfBoard}
use Rattle.status_report.specs.Answering.{reply_room, answers_in, lfs_in}
use Rattle.step_line.specs.Finishing.{ticks_together, most_unfinished}
use Rattle.step_line.specs.Logs.{NewestFirst}
use Rattle.motion_ring.specs.Sides.{unfinished_in}
use Rattle.serial_ring.specs.Logs.{marked_in}
use Rattle.serial_ring.specs.Marks.{Mark, AreMarks, latest}
use Rattle.pulse_engine.specs.Logs.{PieceLog, RecordLog, pieces_of, got_since, counted, halts_of, records_put}
use Rattle.pulse_engine.specs.Steps.{AwaitsPiece}
use Rattle.pulse_engine.specs.Turns.{PulseTurned}
use Rattle.motion_pulse.specs.declared.pulse.MotionPulse.{MotionPulse}
use Rattle.motion_pulse.specs.declared.pulse.Stepping.{Stepping}
use Rattle.motion_pulse.specs.Pulses.{MotionFits, pins_of, pins_by_heads, seen_of, stepping_of}
use Rattle.step_record.specs.Taking.{Log, records}
use Rattle.step_record.specs.declared.forms.Form.{Form}
use Rattle.step_record.specs.Recording.{Recording, RecorderFits, RecorderTurned, Rests, Takes}
use Rattle.run_law.specs.declared.RunEnd.{RunEnd}
use Rattle.run_law.specs.Runs.{run_end}
pub use Rattle.epoch_law.specs.Devices.{Devices, devices, sinks, RunsSoFar, HasRun}
use Rattle.list_ports.specs.Passing.{HandsOn, record_room}
use Rattle.realtime_flags.specs.Bits.{IsBalanced}
use Rattle.list_ports.specs.Joining.{Listed, Joined}
use Rattle.line_reports.specs.PerLine.{ReportsPerLine}
use Rattle.run_rules.specs.Lines.{lines_of}
use Rattle.run_rules.specs.Told.{replies_text}
use Rattle.std.specs.Io.KnownBytes.{Consumes}
use Rattle.outside.specs.Writing.{Wrote}
use Rattle.status_report.specs.declared.Reply.{Reply}
use Rattle.host_journal.specs.declared.Reading.{Reading}
use Rattle.host_journal.specs.declared.Stop.{Stop}
use Rattle.host_journal.specs.Jobs.{IsSentSoFar}

-- what callers see of a world, whose plan has so many slots: for how many bytes its link has room, its actors, and what is on its
-- way
pub record Seen (slots : ℕ) : Type 0 where
  pub room : ℕ
  pub host : Host
  pub board : Controller slots
  pub pulse : MotionPulse
  pub recorder : Recording
  pub lists : Listed
  pub waiting : List AnyRecord

-- what was done: the journal of the host, the epochs of the board, what the pulse did with pieces, the records put, and those taken; and
-- how the pulse steps the machine
pub record History : Type 0 where
  pub host : HostJournal
  pub board : Epochs
  pub pulse : PieceLog
  pub puts : RecordLog
  pub takes : Log
  pub stepping : Stepping

-- nothing was done, with a host that is attended or not, and a pulse of this kind
abbrev pub no_history : (attended : Bool) → Stepping → History
no_history attended stepping = record { host = beginning attended; board = goes [] []; pulse = []; puts = []; takes = []; stepping = stepping }

-- how many subticks the pulse has handed out
abbrev pub pins_in : History → ℕ
pins_in hist = pins_of hist.stepping hist.puts

-- what a world says of what was done, with no word of a device
pub record Holds {N : ℕ} (w : Seen N) (hist : History) : Type 0 where
  pub joined : Joined w.lists (host_log hist.host) (board_log hist.board) hist.pulse
  pub passed : HandsOn w.waiting hist.puts hist.takes
  pub host : HostFits w.room w.host hist.host
  pub host_between : IsBetweenOfHost hist.host
  pub board : BoardFits w.board hist.board
  pub board_between : IsBetweenOfBoard hist.board
  pub pulse : MotionFits w.pulse hist.pulse hist.puts
  pub stepping : stepping_of w.pulse ≡ hist.stepping

-- there is such a history
abbrev pub HasHistory : {N : ℕ} → Seen N → Type 0
HasHistory w = (hist : History) × Holds w hist

-- a world that has done this since a moment
pub record Stands {N : ℕ} (form : Form) (was now : Devices) (w : Seen N) (hist : History) : Type 0 where
  pub holds : Holds w hist
  pub job : TellsJob hist.host was.job now.job
  pub console : TellsText w.host.text hist.host was.console now.console
  pub wrote : RecorderFits form w.recorder hist.takes was.steps now.steps

-- ---- what is on its way

-- the last of some marks, by its number and how many bytes were stored before it, or the start
abbrev pub last_mark : List ℕ → Mark
last_mark marks = (length marks, latest marks)

-- Between host and board: the bytes taken are a front of those stored, and no more behind than the link has room for; the replies got
-- are a front of those answered, and at most 16 behind. No more lines are answered than were taken to their LF. The mark on its way is
-- the last one stored, and each mark that was loaded was stored, or is the start.
pub record LinkIsKept {N : ℕ} (w : Seen N) (hist : History) : Type 0 where
  pub taken : stored_of hist.host ≡ taken_in (board_log hist.board) ++ w.lists.bytes
  pub bytes : length w.lists.bytes ≤ w.room
  pub got : answered_in (board_log hist.board) ≡ got_of hist.host ++ w.lists.replies
  pub replies : length w.lists.replies ≤ reply_room
  pub answers : answers_in (answered_in (board_log hist.board)) ≤ lfs_in (taken_in (board_log hist.board))
  pub mark : w.lists.mark ≡ last_mark (marks_of hist.host)
  pub loaded : AreMarks (marks_of hist.host) (marked_in (link_steps (board_log hist.board)))

-- Between host and board: each flag was found down by as many raises as there are takes that had it, and by one more where it
-- is up. So none is lost, and none is taken twice.
pub record FlagsAreKept {N : ℕ} (w : Seen N) (hist : History) : Type 0 where
  pub balance : IsBalanced (w.lists.exec ∷ w.lists.override ∷ []) (raises_in (host_log hist.host)) (takes_in (board_log hist.board))

-- the halts of a pulse are those found, or one more
abbrev pub FollowHalts : (found halts : NewestFirst (ℕ × ℕ)) → Type 0
FollowHalts found halts = (halts ≡ found) ⊎ ((last : ℕ × ℕ) × (halts ≡ last ∷ found))

-- how many ticks were done at the last of some halts
abbrev pub ticks_halted : NewestFirst (ℕ × ℕ) → ℕ
ticks_halted [] = 0
ticks_halted (halt ∷ halts) = halt.1

-- Between board and pulse: the pieces got or dropped are a front of those published. No more ticks are done than those at the last
-- halt and those of the pieces got since; at most five pieces are unfinished. The halts that the board has found are those of the
-- pulse, which has halted once more at most. Between pulse and recorder: the records taken are a front of those put, at most 1,024
-- behind.
pub record MotionIsKept {N : ℕ} (w : Seen N) (hist : History) : Type 0 where
  pub got : pieces_sent (sent_in (board_log hist.board)) ≡ reverse (pieces_of hist.pulse) ++ w.lists.pieces
  pub done : counted hist.pulse ≤ ticks_halted (halts_of hist.pulse) + ticks_together (got_since hist.pulse)
  pub few : unfinished_in (sent_in (board_log hist.board)) (counted hist.pulse) ≤ most_unfinished
  pub halts : FollowHalts (halts_seen (sent_in (board_log hist.board))) (halts_of hist.pulse)
  pub taken : records_put hist.puts ≡ records hist.takes ++ w.waiting
  pub room : length w.waiting ≤ record_room

-- ---- one turn

-- what one turn of an actor adds to what was done: its own steps and its answer, and nothing to the others'
abbrev pub Adds : {N : ℕ} → Actor → Turn → Seen N → Seen N → History → History → Type 0
Adds actors.Host t w w' hist next = (next ≡ record hist { host = next.host }) × HostTurned t w.host w'.host hist.host next.host
Adds actors.Board t w w' hist next = (next ≡ record hist { board = next.board }) × BoardTurned t w.board w'.board hist.board next.board
Adds actors.Pulse t w w' hist next = (next ≡ record hist { pulse = next.pulse; puts = next.puts }) × PulseTurned t hist.pulse hist.puts next.pulse next.puts
Adds actors.Record t w w' hist next = (next ≡ record hist { takes = next.takes }) × RecorderTurned t w.recorder w'.recorder hist.takes next.takes

-- one turn of an actor: whatever was done before, and since whatever moment, there is what was done after it
pub record TurnsOn {N : ℕ} (actor : Actor) (t : Turn) (before after : Devices) (w w' : Seen N) : Type 0 where
  pub on : (form : Form) (was : Devices) (hist : History) → Stands form was before w hist → (next : History) × Stands form was after w' next × Adds actor t w w' hist next

-- the other actors, and the lists that are not its ports, are as before
abbrev pub ActsAlone : {N : ℕ} → Actor → Seen N → Seen N → Type 0
ActsAlone actors.Host w w' = w' ≡ record w { host = w'.host; lists = w'.lists }
ActsAlone actors.Board w w' = w' ≡ record w { board = w'.board; lists = w'.lists }
ActsAlone actors.Pulse w w' = w' ≡ record w { pulse = w'.pulse; lists = w'.lists; waiting = w'.waiting }
ActsAlone actors.Record w w' = w' ≡ record w { recorder = w'.recorder; waiting = w'.waiting }

-- an actor is done
abbrev pub IsDone : {N : ℕ} → Actor → Seen N → Type 0
IsDone actors.Host w = HostRests w.host
IsDone actors.Board w = BoardRests w.board
IsDone actors.Pulse w = (seen_of w.pulse).over ≡ true
IsDone actors.Record w = Rests w.recorder

-- all four are
pub record AreDone {N : ℕ} (w : Seen N) : Type 0 where
  pub host : IsDone actors.Host w
  pub board : IsDone actors.Board w
  pub pulse : IsDone actors.Pulse w
  pub recorder : IsDone actors.Record w

-- the pulse finds no stop and no piece
pub record OffersNothing {N : ℕ} (w : Seen N) : Type 0 where
  pub no_stop : w.lists.stop ≡ false
  pub no_piece : w.lists.pieces ≡ []

-- Nothing moves: the pulse has nothing to put, and finds no stop and no piece; the recorder has nothing to write, and finds no
-- record.
pub record MotionRests {N : ℕ} (w : Seen N) : Type 0 where
  pub nothing : OffersNothing w
  pub no_record : w.waiting ≡ []
  pub pulse : AwaitsPiece (seen_of w.pulse)
  pub recorder : Takes w.recorder

-- ---- turns one after the other

-- the actors of a schedule each took a turn, in its order
abbrev pub Turns : {N : ℕ} → List Actor → Seen N → Seen N → History → History → Type 0
Turns [] w w' hist next = (w' ≡ w) × (next ≡ hist)
Turns {N} (actor ∷ schedule) w w' hist next = (t : Turn) × (mid : Seen N) × (between : History) × Adds actor t w mid hist between × Turns schedule mid w' between next

-- the turns of a schedule: whatever was done before, and since whatever moment, there is what was done after them
pub record RunsOn {N : ℕ} (schedule : List Actor) (before after : Devices) (w w' : Seen N) : Type 0 where
  pub on : (form : Form) (was : Devices) (hist : History) → Stands form was before w hist → (next : History) × Stands form was after w' next × Turns schedule w w' hist next

-- the turns of some schedule
pub record HasRunOn {N : ℕ} (before after : Devices) (w w' : Seen N) : Type 0 where
  pub schedule : List Actor
  pub runs : RunsOn schedule before after w w'

-- ---- what a world has done since a moment, as a run of the job

-- how it ends
abbrev pub end_after : {N : ℕ} → Seen N → History → RunEnd
end_after w hist = run_end (end_of hist.host) w.recorder.writer.failed

-- A whole run of the job on one thread, at a link that has room for so many bytes, with a plan of so many blocks: each line that was
-- scanned has at most as many reports among the replies as it has `?`, by the lists of that run. Of an attended run that is not said.
pub record HasRunAlone (attended : Bool) (room blocks : ℕ) (form : Form) (was now : Devices) (end : RunEnd) : Type 0 where
  pub run : HasRun attended room blocks form was now end
  pub reports : attended ≡ false → ReportsPerLine (lines_of run.scanned) run.replies

-- That, by a pulse of this kind, which has handed out so many subticks in all. Where no reset ends an epoch, they are those of the heads
-- of the records.
pub record HasRunCounted (attended : Bool) (room blocks : ℕ) (form : Form) (was now : Devices) (end : RunEnd) (stepping : Stepping) (pins : ℕ) : Type 0 where
  pub alone : HasRunAlone attended room blocks form was now end
  pub counted : length alone.run.epochs ≡ 1 → pins ≡ pins_by_heads stepping alone.run.records

-- ---- its reports, line by line

-- What was read of the job since a moment, and scanned, and the replies whose text the console was given, as far as it does not
-- wait: each line that was scanned has at most as many reports among them as it has `?`. Of an attended run that is not said.
pub record CountsReports (attended : Bool) (was now : Devices) : Type 0 where
  pub read : List ℕ
  pub reading : Reading
  pub scanned : List ℕ
  pub lines : List (List ℕ)
  pub stop : Stop
  pub taken : Consumes was.job.left now.job.left read
  pub sent : IsSentSoFar read reading scanned lines stop
  pub replies : List Reply
  pub failed : Bool
  pub waiting : List ℕ
  pub console : Wrote was.console now.console failed waiting (replies_text replies)
  pub reports : attended ≡ false → ReportsPerLine (lines_of scanned) replies
