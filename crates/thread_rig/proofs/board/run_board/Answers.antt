use Rattle.std.proofs.Common.{arith}
use Rattle.serial_ring.specs.Ends.{link_of_board}
use Rattle.realtime_flags.specs.Ends.{taken_in}
use Rattle.motion_ring.specs.Ends.{ring_of_out}
use Rattle.thread_rig.proofs.board.run_board.Goals as goal

pub loop-init : goal.loop-init
loop-init g c = λ before r. r

pub turn-requires : goal.turn-requires
turn-requires g c =
    let i = c.loop.invariant c.requires.0 c.requires.1 in
    let port = c.requires.0.link in
    (omega arith, ((link_of_board port.end, taken_in port.flags, ring_of_out port.pieces), i.epochs, (i.link, i.flags, i.pieces, i.did, i.sees), i.fits, i.between))

pub loop-preserved : goal.loop-preserved
loop-preserved g c = λ before r.
    let i = c.loop.invariant before r in
    let port = before.link in
    let t = c.turn.ensures.goes_on (link_of_board port.end, taken_in port.flags, ring_of_out port.pieces) i.epochs (i.link, i.flags, i.pieces, i.did, i.sees) i.fits i.between in
    record { epochs = t.0; link = t.1.0; flags = t.1.1; pieces = t.1.2; did = t.1.3; sees = t.1.4; fits = t.2; between = t.3 }

pub returns-then-is_last : goal.returns-then-is_last
returns-then-is_last g c = λ before r.
    let i = c.loop.invariant before r in
    let port = before.link in
    let t = c.turn.ensures.goes_on (link_of_board port.end, taken_in port.flags, ring_of_out port.pieces) i.epochs (i.link, i.flags, i.pieces, i.did, i.sees) i.fits i.between in
    let rests = c.turn.ensures.done.0 (c.is_last.ensures.0 c.if-is_last.true) in
    record { runs = record { epochs = t.0; link = t.1.0; flags = t.1.1; pieces = t.1.2; did = t.1.3; sees = t.1.4; fits = t.2; between = t.3 }; done = rw (c.turn.ensures.still rests).0 rests }
