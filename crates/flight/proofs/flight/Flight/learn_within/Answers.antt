use Rattle.std.proofs.Common.{◌≡◌, ◌<◌, length, ap, ◌∙◌, arith, subst, sym, max, min}
use Rattle.step_line.specs.Finishing.{ticks_together}
use Rattle.step_line.specs.Places.{place_after}
use Rattle.flight.specs.Flights.{Flying, Flies, window}
use Rattle.flight.proofs.Flying.{none_more, learned_within, no_pieces, some_pieces}
use Rattle.flight.proofs.Slots.{in_use}
use Rattle.flight.proofs.flight.Flight.learn_within.Goals as goal

pub returns-then-self-eq0-clause-flies : goal.returns-then-self-eq0-clause-flies
returns-then-self-eq0-clause-flies c = λ start published is.
    let i = c.self.inside in
    let used = in_use i.slots i.head i.count i.mv i.events i.before i.known c.self.invariant in
    let same : length (window i.head i.count i.slots) ≡ length c.args.self.now.kept = ap (λ (f : Flying). length f.kept) c.self.view_is in
    let none = c.if-self-eq0.true in
    none_more start c.args.self.now published c.args.done (no_pieces c.args.self.now.kept (omega arith)) is

pub returns-clause-flies : goal.returns-clause-flies
returns-clause-flies c = λ start published is.
    let i = c.self.inside in
    let f = c.args.self.now in
    let used = in_use i.slots i.head i.count i.mv i.events i.before i.known c.self.invariant in
    let same : length (window i.head i.count i.slots) ≡ length f.kept = ap (λ (f : Flying). length f.kept) c.self.view_is in
    let some = c.if-self-eq0.false in
    let there : 0 < length f.kept = omega arith in
    let view : record { kept = f.kept; from = f.from; before = f.before; known = max f.known c.args.done } ≡ record { kept = window i.head i.count i.slots; from = place_after i.mv i.events; before = i.before; known = c.max-self-inside.result } =
    sym (ap (λ n. record { kept = window i.head i.count i.slots; from = place_after i.mv i.events; before = i.before; known = n }) c.max-self-inside.ensures ∙ ap (λ (g : Flying). record g { known = max g.known c.args.done }) c.self.view_is) in
    subst (λ (g : Flying). Flies start g published (max f.known (min c.args.done (ticks_together published)))) view
    (learned_within start f published c.args.done there (some_pieces f.kept _ there c.requires.left) is)
