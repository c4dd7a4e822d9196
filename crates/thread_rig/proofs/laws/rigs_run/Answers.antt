use Rattle.std.proofs.Common.{◌++◌, ◌-◌, sym, ap, ◌∙◌, subst}
use Rattle.realtime_flags.specs.Bits.{IsBalanced}
use Rattle.realtime_flags.specs.Ends.{raises_by}
use Rattle.stream_host.specs.Ran.{end_of}
use Rattle.host_journal.specs.Steps.{port_log, is_attended}
use Rattle.board_journal.specs.Takes.{takes_in}
use Rattle.board_epochs.specs.Epochs.{log_of}
use Rattle.run_law.specs.Devices.{sinks}
use Rattle.motion_pulse.specs.Pulses.{seen_of}
use Rattle.epoch_law.specs.Devices.{HasRun}
use Rattle.epoch_law.specs.Journals.{host_did, board_did, pulse_did}
use Rattle.thread_rig.proofs.Finishing.{all_halts, board_ran}
use Rattle.thread_rig.proofs.Meeting.{passed_some}
use Rattle.thread_rig.proofs.laws.rigs_run.Goals as goal

pub returns : goal.returns
returns c room slots before after was is end ran agree =
    let host = ran.host.runs in
    let board = ran.board.runs in
    let pulse = ran.pulse.runs in
    let recorder = ran.recorder.runs in
    let form = was.recorder.side.recorder.form in
    let hosts = c.hosts_have_run.ensures in
    let kept = c.controllers_keep_to_epochs.ensures slots is.board.side.board board.epochs board.fits in
    let over = kept.3 ran.board.done in
    let log = log_of board.epochs in
    let balance = subst (λ rs. IsBalanced agree.words rs (takes_in log)) (sym host.did.raises_are)
    (subst (λ ts. IsBalanced agree.words (raises_by is.host.side.link.flags) ts) (sym board.did.takes_are) agree.flags) in
    let agreed = c.ports_of_a_link_agree.ensures room is.host.side.link is.board.side.link (port_log host.journal) log host.did board.did agree.link in
    let linked = c.ends_of_a_link_are_linked.ensures.ports host.journal board.epochs agreed in
    let raised = c.words_that_are_taken_were_raised.ensures agree.words (port_log host.journal) log balance in
    let connected = c.linked_ends_are_connected.ensures room host.journal (slots - 1) kept.0 board.epochs host.fits.conducted kept.2 linked.0 linked.1 raised in
    let run = c.actors_that_end_make_a_run.ensures (is_attended host.journal) room (slots - 1) form before.job after.job (sinks before) (sinks after) (end_of host.journal) is.recorder.side.recorder.writer.failed
    (host_did host.journal) (board_did board.epochs) (pulse_did pulse.got pulse.put) _
    (c.hosts_have_sent.ensures room host.journal before.job after.job before.console after.console host.fits.conducted (hosts.finished room is.host.side.host host.journal host.fits ran.host.done) host.job
    (hosts.console room is.host.side.host host.journal before.console after.console host.fits host.console)).0
    (board_ran (slots - 1) (c.boards_have_run.ensures (slots - 1)) kept.0 board.epochs kept.1 kept.2 over)
    (c.pulses_have_run.ensures (seen_of is.pulse.side.pulse) pulse.got pulse.put pulse.fits.pulse (sym pulse.fits.pulse.end ∙ ran.pulse.done))
    (c.recorders_have_run.ensures.whole form is.recorder.side.recorder recorder.log before.steps after.steps recorder.fits ran.recorder.done)
    connected
    (passed_some board.epochs pulse.got pulse.put _ _ _ _ board.did.pieces_are pulse.pieces agree.pieces (all_halts (slots - 1) kept.0 board.epochs kept.2 over))
    linked.1
    (record { rest = agree.untaken; is = sym pulse.records.1 ∙ (agree.records ∙ ap (λ z. z ++ agree.untaken) recorder.records.1) }) in
    let attended = sym host.fits.attended_is ∙ host.attended in
    subst (λ a. HasRun a room (slots - 1) form before after end) attended (subst (λ e. HasRun (is_attended host.journal) room (slots - 1) form before after e) (sym (ran.tells host.journal host.fits)) run.0)
