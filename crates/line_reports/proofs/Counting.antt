-- On one thread, in each epoch, each line has at most as many reports as it has `?`.
use Rattle.std.proofs.Common.{◌≡◌, ℕ, false, reverse, ap, arith}
use Rattle.run_rules.specs.declared.State.{State}
use Rattle.run_rules.specs.Lines.{lines_of}
use Rattle.host_journal.specs.Steps.{Journal, port_log, is_attended, latest_got, got_of, scanned_of}
use Rattle.stream_host.specs.Conduct.{Conducted}
use Rattle.board_epochs.specs.Epochs.{Epochs, AreEpochs, log_of}
use Rattle.pulse_engine.specs.Logs.{PieceLog}
use Rattle.list_ports.specs.Joining.{Listed, Joined}
use Rattle.line_reports.specs.PerLine.{ReportsPerLine, reports_at}
use Rattle.list_ports.proofs.Marking.{answered_is, latest_back}
use Rattle.line_reports.proofs.BoardAsks.{boards_keep, front_fewer}
use Rattle.line_reports.proofs.HostAsks.{asks_between, raised_in_lines}

pub reports_per_line : (room : ℕ) (lists : Listed) (host : Journal) (blocks : ℕ) (first : State) (board : Epochs) (pulse : PieceLog) → Joined lists (port_log host) (log_of board) pulse → Conducted room host → is_attended host ≡ false → AreEpochs blocks first board
    → ReportsPerLine (lines_of (scanned_of host)) (got_of host)
reports_per_line room lists host blocks first board pulse joined host_kept alone board_kept e k =
    let keeps = boards_keep blocks first board board_kept in
    let pass = joined.asks (asks_between room host host_kept alone) keeps.looks in
    let taken = pass.each e k in
    let told = keeps.few e k in
    let same = ap (reports_at e k) (answered_is lists.replies (port_log host) (log_of board) joined.replies) in
    let front = front_fewer e k (reverse lists.replies) (latest_got (port_log host)) in
    let got = ap (reports_at e k) (latest_back (port_log host)) in
    let raised = raised_in_lines room host host_kept alone e k in
    omega arith
