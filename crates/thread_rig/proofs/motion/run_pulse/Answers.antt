use Rattle.std.proofs.Common.{[], refl, ◌∙◌}
use Rattle.motion_ring.specs.Ends.{ring_of_in}
use Rattle.thread_rig.proofs.motion.run_pulse.Goals as goal

pub loop-init : goal.loop-init
loop-init g c = record { got = []; put = []; pieces = c.requires.got; records = (((refl, refl, refl, refl), refl), c.requires.put, tt); fits = c.requires.fits; stepping = refl }

pub turn-requires : goal.turn-requires
turn-requires g c = let i = c.loop.invariant in (ring_of_in c.args.side.now.pieces.end, c.args.side.now.records, i.got, i.put, i.pieces, i.records, i.fits)

pub loop-preserved : goal.loop-preserved
loop-preserved g c =
    let i = c.loop.invariant in
    let t = c.turn.ensures.logs (ring_of_in c.args.side.now.pieces.end) c.args.side.now.records i.got i.put i.pieces i.records i.fits in
    record { got = t.0; put = t.1; pieces = t.2; records = t.3; fits = t.4; stepping = c.turn.ensures.stepping ∙ i.stepping }

pub returns-then-is_last : goal.returns-then-is_last
returns-then-is_last g c =
    let i = c.loop.invariant in
    let t = c.turn.ensures.logs (ring_of_in c.args.side.now.pieces.end) c.args.side.now.records i.got i.put i.pieces i.records i.fits in
    let rests = c.turn.ensures.done.0 (c.is_last.ensures.0 c.if-is_last.true) in
    record { runs = record { got = t.0; put = t.1; pieces = t.2; records = t.3; fits = t.4; stepping = c.turn.ensures.stepping ∙ i.stepping }; done = rw (c.turn.ensures.still rests).0 rests }
