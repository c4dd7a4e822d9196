use Rattle.std.proofs.Common.{◌<◌, ap, arith}
use Rattle.flight.specs.Flights.{Flying}
use Rattle.flight.proofs.Slots.{first_kept}
use Rattle.flight.proofs.flight.Flight.first.Goals as goal

pub returns-clause-some : goal.returns-clause-some
returns-clause-some c =
    let i = c.self.inside in
    let others = c.if-self-eq0.false in
    let some : 0 < i.count = omega (arith, others) in
    first_kept i.slots i.head i.count i.mv i.events i.before i.known c.self.invariant c.args.self.now.kept _ some (ap (λ (f : Flying). f.kept) c.self.view_is)
