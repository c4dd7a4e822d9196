use Rattle.std.proofs.Common.{refl, sym, ◌∙◌, subst}
use Rattle.serial_ring.specs.Ends.{link_of_host}
use Rattle.realtime_flags.specs.Ends.{raised_in}
use Rattle.host_journal.specs.Steps.{beginning}
use Rattle.stream_host.proofs.Running.{tells_nothing, new_shows_nothing, between_nothing, logs_nothing, stays_attended}
use Rattle.link_ports.specs.Standing.{HostLogs, HostSees}
use Rattle.thread_rig.proofs.host.run_host.Goals as goal

pub loop-init : goal.loop-init
loop-init g c =
    let side = c.args.side.now in
    let stands = side.host.attended in
    record {
      journal = beginning stands;
      attended = refl;
      link = refl;
      flags = refl;
      did = subst (HostLogs side.link) (sym (logs_nothing stands)) c.requires.did;
      sees = subst (HostSees side.link) (sym (logs_nothing stands)) c.requires.sees;
      fits = c.requires.fits;
      between = between_nothing stands;
      job = tells_nothing stands (g.J.Source.state c.args.job.now);
      console = new_shows_nothing stands side.host (g.C.Sink.state c.args.console.now) c.requires.fits;
    }

pub turn-requires : goal.turn-requires
turn-requires g c =
    let i = c.loop.invariant in
    let port = c.args.side.now.link in
    record { stands = ((link_of_host port.end, raised_in port.flags), i.journal, (i.link, i.flags, i.did, i.sees), i.fits, i.between) }

pub loop-preserved : goal.loop-preserved
loop-preserved g c =
    let i = c.loop.invariant in
    let port = c.args.side.now.link in
    let t = c.turn.ensures.goes_on (link_of_host port.end, raised_in port.flags) i.journal (i.link, i.flags, i.did, i.sees) i.fits i.between in
    record { journal = t.0; attended = stays_attended _ _ _ i.journal t.0 i.fits t.2 t.4 ∙ i.attended; link = t.1.0; flags = t.1.1; did = t.1.2; sees = t.1.3; fits = t.2; between = t.3; job = t.5.job (g.J.Source.state c.args.job.now) i.job; console = t.5.console (g.C.Sink.state c.args.console.now) i.console }

pub returns-then-is_last : goal.returns-then-is_last
returns-then-is_last g c =
    let i = c.loop.invariant in
    let port = c.args.side.now.link in
    let t = c.turn.ensures.goes_on (link_of_host port.end, raised_in port.flags) i.journal (i.link, i.flags, i.did, i.sees) i.fits i.between in
    let rests = c.turn.ensures.done.0 (c.is_last.ensures.0 c.if-is_last.true) in
    record { runs = record { journal = t.0; attended = stays_attended _ _ _ i.journal t.0 i.fits t.2 t.4 ∙ i.attended; link = t.1.0; flags = t.1.1; did = t.1.2; sees = t.1.3; fits = t.2; between = t.3; job = t.5.job (g.J.Source.state c.args.job.now) i.job; console = t.5.console (g.C.Sink.state c.args.console.now) i.console }; done = rw (c.turn.ensures.still rests).0 rests }
