use Rattle.std.proofs.Common.{Bool, List, ℕ, ◌-◌, length, sym, subst, ◌∙◌}
use Rattle.run_rules.specs.Lines.{lines_of}
use Rattle.status_report.specs.declared.Reply.{Reply}
use Rattle.stream_host.specs.Ran.{end_of}
use Rattle.host_journal.specs.Steps.{is_attended, scanned_of}
use Rattle.step_record.specs.Taking.{records}
use Rattle.step_line.specs.Asking.{ticks_among}
use Rattle.pulse_engine.specs.Logs.{halts_of, records_put}
use Rattle.motion_pulse.specs.Pulses.{seen_of}
use Rattle.epoch_law.specs.Journals.{host_did, board_did, pulse_did}
use Rattle.line_reports.specs.PerLine.{ReportsPerLine}
use Rattle.actor_turns.specs.Worlds.{sinks, RunsSoFar, HasRunCounted, end_after, pins_in}
use Rattle.actor_turns.proofs.Counted.{counted_by_heads, one_unhalted}
use Rattle.actor_turns.proofs.Reports.{world_reports}
use Rattle.actor_turns.proofs.Running.{replies_front, records_front, pieces_passed, passed_some, connected, board_ran}
use Rattle.actor_turns.proofs.laws.worlds_run.Goals as goal

pub returns-clause-so_far : goal.returns-clause-so_far
returns-clause-so_far c N form was now w hist st =
    let h = st.holds in
    let host = c.hosts_have_run.ensures in
    let kept = c.controllers_keep_to_epochs.ensures N w.board hist.board h.board in
    let ring = pieces_passed w hist h in
    let rings = c.rings_pass_pieces_so_far.ensures in
    subst (λ (a : Bool). RunsSoFar a w.room (N - 1) form was now) (sym h.host.attended_is)
    (c.actors_make_a_run_so_far.ensures (is_attended hist.host) w.room (N - 1) form was.job now.job (sinks was) (sinks now) (host_did hist.host) (board_did hist.board) (pulse_did hist.pulse hist.puts) (records hist.takes)
    (c.hosts_are_sending.ensures w.room hist.host was.job now.job was.console now.console h.host.conducted st.job (host.console w.room w.host hist.host was.console now.console h.host st.console))
    (c.boards_run.ensures (N - 1) kept.0 (length (ticks_among (records_put hist.puts))) hist.board kept.1 kept.2
    (rings.known (N - 1) kept.0 hist.board (seen_of w.pulse) hist.pulse hist.puts kept.2 h.pulse.pulse ring) (rings.within (N - 1) kept.0 hist.board (seen_of w.pulse) hist.pulse hist.puts kept.2 h.pulse.pulse ring))
    (c.pulses_run.ensures (seen_of w.pulse) hist.pulse hist.puts h.pulse.pulse)
    (c.recorders_have_run.ensures.so_far form w.recorder hist.takes was.steps now.steps st.wrote)
    (connected w hist kept.0 h kept.2) (rings.passed (N - 1) kept.0 hist.board (seen_of w.pulse) hist.pulse hist.puts kept.2 h.pulse.pulse ring) (replies_front w hist h) (records_front w hist h))

pub returns-clause-counted : goal.returns-clause-counted
returns-clause-counted c N form was now w hist st done =
    let h = st.holds in
    let host = c.hosts_have_run.ensures in
    let kept = c.controllers_keep_to_epochs.ensures N w.board hist.board h.board in
    let over = kept.3 done.board in
    let sent = c.hosts_have_sent.ensures w.room hist.host was.job now.job was.console now.console h.host.conducted (host.finished w.room w.host hist.host h.host done.host) st.job
    (host.console w.room w.host hist.host was.console now.console h.host st.console) in
    let run = c.actors_that_end_make_a_run.ensures (is_attended hist.host) w.room (N - 1) form was.job now.job (sinks was) (sinks now) (end_of hist.host) w.recorder.writer.failed (host_did hist.host) (board_did hist.board) (pulse_did hist.pulse hist.puts) (records hist.takes)
    sent.0
    (board_ran (N - 1) kept.0 hist.board (c.boards_have_run.ensures (N - 1) kept.0) kept.1 kept.2 over)
    (c.pulses_have_run.ensures (seen_of w.pulse) hist.pulse hist.puts h.pulse.pulse (sym h.pulse.pulse.end ∙ done.pulse))
    (c.recorders_have_run.ensures.whole form w.recorder hist.takes was.steps now.steps st.wrote done.recorder)
    (connected w hist kept.0 h kept.2) (passed_some w hist kept.0 h kept.2 over) (replies_front w hist h) (records_front w hist h) in
    subst (λ (a : Bool). HasRunCounted a w.room (N - 1) form was now (end_after w hist) hist.stepping (pins_in hist)) (sym h.host.attended_is) (record {
      alone = record {
        run = run.0;
        reports = λ alone.
            subst (λ (bytes : List ℕ). ReportsPerLine (lines_of bytes) run.0.replies) (sym (run.1 ∙ sent.1))
            (subst (λ (rs : List Reply). ReportsPerLine (lines_of (scanned_of hist.host)) rs) (sym run.2) (world_reports w hist h (h.host.attended_is ∙ alone)));
      };
      counted = λ one.
          counted_by_heads w hist h (c.pins_are_those_of_heads.ensures w.pulse hist.pulse hist.puts h.pulse (one_unhalted run.0.epochs (halts_of hist.pulse) one run.4) (h.pulse.pulse.last done.pulse).0) run.0.records run.3;
    })

pub returns-clause-alone : goal.returns-clause-alone
returns-clause-alone c N form was now w hist st done = (returns-clause-counted c N form was now w hist st done).alone

pub returns-clause-whole : goal.returns-clause-whole
returns-clause-whole c N form was now w hist st done = (returns-clause-alone c N form was now w hist st done).run
