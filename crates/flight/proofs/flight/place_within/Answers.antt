use Rattle.std.proofs.Common.{◌≤◌, sym, ◌∙◌, arith, subst}
use Rattle.step_line.specs.declared.Piece.{Piece}
use Rattle.step_line.specs.Finishing.{tick_count}
use Rattle.step_line.specs.Places.{place_after}
use Rattle.flight.specs.Flights.{IsFit}
use Rattle.flight.proofs.Places.{few_events, within_move, some_of_one}
use Rattle.flight.proofs.flight.place_within.Goals as goal

pub overflow_add-segment : goal.overflow_add-segment
overflow_add-segment c =
    let fits = subst IsFit c.in-Segment.is c.requires.fits in
    let few = within_move c.in-Segment.segment c.args.done fits (subst (λ (p : Piece). c.args.done ≤ tick_count p) c.in-Segment.is c.requires.few) in
    omega (arith, few, few_events c.in-Segment.segment.mv fits.mv)

pub position_after-requires-clause-events : goal.position_after-requires-clause-events
position_after-requires-clause-events c =
    let fits = subst IsFit c.in-Segment.is c.requires.fits in
    within_move c.in-Segment.segment c.args.done fits (subst (λ (p : Piece). c.args.done ≤ tick_count p) c.in-Segment.is c.requires.few)

pub returns-in-Segment-clause-place : goal.returns-in-Segment-clause-place
returns-in-Segment-clause-place c = rw c.in-Segment.is (λ begins. c.position_after.ensures.place ∙ sym (some_of_one (place_after c.args.mv.now c.args.events) c.in-Segment.segment c.args.done begins (subst (λ (p : Piece). c.args.done ≤ tick_count p) c.in-Segment.is c.requires.few)))
