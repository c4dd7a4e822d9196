use Rattle.std.proofs.Common.{◌≡◌, ◌<◌, ◌+◌, ◌-◌, ◌%◌, List, length, drop, sym, ap, ◌∙◌, arith, subst}
use Rattle.step_line.specs.declared.Piece.{Piece}
use Rattle.step_line.specs.Pieces.{ticks_of}
use Rattle.step_line.specs.Finishing.{tick_count}
use Rattle.step_line.specs.Places.{place_after}
use Rattle.flight.specs.Places.{moved_by}
use Rattle.flight.specs.Flights.{Flying, Flies, BeginsAt, window}
use Rattle.flight.proofs.Flying.{dropped}
use Rattle.flight.proofs.Slots.{in_use, dropped_slots, dropped_flight}
use Rattle.flight.proofs.flight.Flight.drop_first.Goals as goal

kept_is : (c : goal.After-self-4-1) → window c.self.inside.head c.self.inside.count c.self.inside.slots ≡ c.args.self.now.kept
kept_is c = ap (λ (f : Flying). f.kept) c.self.view_is ∙ c.lead.ensures.kept

some : (c : goal.After-self-4-1) → 0 < c.self.inside.count
some c =
    let i = c.self.inside in
    let used = in_use i.slots i.head i.count i.mv i.events i.before i.known c.self.invariant in
    let same = ap length (kept_is c) in
    let there = c.requires.some in
    omega arith

rest_is : (c : goal.After-self-4-1) → window ((c.self.inside.head + 1) % 8) (c.self.inside.count - 1) c.self.inside.slots ≡ drop 1 c.args.self.now.kept
rest_is c =
    let i = c.self.inside in
    dropped_slots i.slots i.head i.count i.mv i.events i.before i.known c.self.invariant (some c) ∙ ap (drop 1) (kept_is c)

pub invariant_of-self : goal.invariant_of-self
invariant_of-self c =
    let i = c.self.inside in
    dropped_flight i.slots i.head i.count i.mv i.events i.before i.known c.self.invariant (i.before + c.tick_count.result) (some c)

pub returns-clause-flies : goal.returns-clause-flies
returns-clause-flies c = λ start published is.
    let i = c.self.inside in
    let f = c.args.self.now in
    let p = c.in-Some.field-0.now in
    let place = place_after i.mv i.events in
    let done = i.before + c.tick_count.result in
    let before : i.before ≡ f.before = ap (λ (f : Flying). f.before) c.self.view_is ∙ c.lead.ensures.before in
    let leads : BeginsAt f.from p → place ≡ moved_by f.from (ticks_of p) = λ begins. ap (λ (f : Flying). f.from) c.self.view_is ∙ c.lead.ensures.from begins in
    let sum : done ≡ f.before + tick_count p = let e = c.tick_count.ensures in omega arith in
    subst (λ (qs : List Piece). Flies start (record { kept = qs; from = place; before = done; known = done }) published done) (sym (rest_is c))
    (dropped start f published p (drop 1 f.kept) place done is c.in-Some.ensures.some.0 leads sum)

pub returns-clause-rest : goal.returns-clause-rest
returns-clause-rest c = rest_is c
