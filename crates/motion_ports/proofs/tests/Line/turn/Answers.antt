use Rattle.motion_ports.proofs.tests.Line.turn.Goals as goal

pub turn-requires : goal.turn-requires
turn-requires c = let i = c.self.invariant in (i.ring, record { end = i.start }, i.got, i.put, i.pieces_are, i.records_are, i.fits)

pub invariant_of-self : goal.invariant_of-self
invariant_of-self c =
    let i = c.self.invariant in
    let next = c.turn.ensures.logs i.ring (record { end = i.start }) i.got i.put i.pieces_are i.records_are i.fits in
    record { got = next.0; put = next.1; ring = i.ring; start = i.start; pieces_are = next.2; records_are = next.3; fits = next.4 }
