use Rattle.std.proofs.Common.{[], refl, sym, ◌∙◌}
use Rattle.thread_rig.proofs.motion.run_recorder.Goals as goal

pub loop-init : goal.loop-init
loop-init g c = record { log = []; records = (((refl, refl, refl, refl), refl), c.requires.taken, tt); fits = c.requires.fits (g.S.Sink.state c.args.steps.now) }

pub turn-requires : goal.turn-requires
turn-requires g c = let i = c.loop.invariant in (c.args.side.now.records, i.log, i.records)

pub loop-preserved : goal.loop-preserved
loop-preserved g c =
    let i = c.loop.invariant in
    let t = c.turn.ensures.goes_on c.args.side.now.records i.log i.records in
    record { log = t.0; records = t.1; fits = t.2.on c.args.side.now.recorder.form (g.S.Sink.state c.args.steps.now) i.fits }

pub returns-then-is_last : goal.returns-then-is_last
returns-then-is_last g c =
    let i = c.loop.invariant in
    let t = c.turn.ensures.goes_on c.args.side.now.records i.log i.records in
    let done = c.is_last.ensures.0 c.if-is_last.true in
    record { runs = record { log = t.0; records = t.1; fits = t.2.on c.args.side.now.recorder.form (g.S.Sink.state c.args.steps.now) i.fits }; done = rw (c.turn.ensures.still (λ did. absurd (let e = sym did ∙ done in cc))) (c.turn.ensures.done.0 done) }
