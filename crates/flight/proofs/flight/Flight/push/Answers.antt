use Rattle.std.proofs.Common.{◌≡◌, ◌<◌, ◌++◌, ◌∷◌, [], List, length, sym, ap, arith, subst}
use Rattle.step_line.specs.declared.Piece.{Piece}
use Rattle.step_line.specs.Finishing.{tick_count}
use Rattle.step_line.specs.Places.{place_after}
use Rattle.flight.specs.Flights.{Flying, Flies, flight_room, window}
use Rattle.flight.proofs.Flying.{pushed}
use Rattle.flight.proofs.Slots.{in_use, pushed_slots, pushed_flight}
use Rattle.flight.proofs.flight.Flight.push.Goals as goal

few : (c : goal.After-self-1) → c.self.inside.count < flight_room
few c =
    let i = c.self.inside in
    let used = in_use i.slots i.head i.count i.mv i.events i.before i.known c.self.invariant in
    let same : length (window i.head i.count i.slots) ≡ length c.args.self.now.kept = ap (λ (f : Flying). length f.kept) c.self.view_is in
    let room = c.requires.room in
    omega arith

some : (c : goal.After-self-1) → 0 < tick_count c.args.piece
some c = subst (λ n. 0 < n) c.tick_count.ensures c.if-tick_count-gt0.true

pub invariant_of-self : goal.invariant_of-self
invariant_of-self c =
    let i = c.self.inside in
    pushed_flight i.slots i.head i.count i.mv i.events i.before i.known c.self.invariant c.args.piece (few c) (record { fits = c.requires.fits; ticks = some c })

pub returns-then-tick_count-gt0 : goal.returns-then-tick_count-gt0
returns-then-tick_count-gt0 c = rw (← c.self.view_is) (λ start published known is begins.
    let i = c.self.inside in
    let from = place_after i.mv i.events in
    let f : Flying = record { kept = window i.head i.count i.slots; from = from; before = i.before; known = i.known } in
    subst (λ (ps : List Piece). Flies start (record { kept = ps; from = from; before = i.before; known = i.known }) (published ++ c.args.piece ∷ []) known)
    (sym (pushed_slots i.slots i.head i.count i.mv i.events i.before i.known c.self.invariant c.args.piece (few c))) (pushed start f published known c.args.piece (some c) is begins))
