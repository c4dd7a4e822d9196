use Rattle.std.proofs.Common.{sym, arith, subst}
use Rattle.flight.specs.Flights.{IsFit}
use Rattle.flight.proofs.Places.{few_events, goes_by}
use Rattle.flight.proofs.flight.Flight.lead.Goals as goal

pub overflow_add-self : goal.overflow_add-self
overflow_add-self c =
    let fits = subst IsFit c.in-Segment.is c.requires.fits in
    omega (arith, fits.within, few_events c.in-Segment.segment.mv fits.mv)

pub returns-in-Segment-clause-from : goal.returns-in-Segment-clause-from
returns-in-Segment-clause-from c = rw c.in-Segment.is (λ begins. sym (goes_by c.args.self.now.from c.in-Segment.segment.mv c.in-Segment.segment.first c.in-Segment.segment.n begins))
