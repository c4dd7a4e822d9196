use Rattle.std.proofs.Common.{◌≡◌, ◌-◌, List, drop, sym, ap, ◌∙◌, arith, subst, take, refl}
use Rattle.step_line.specs.declared.Piece.{Piece}
use Rattle.flight.specs.Flights.{Flying, BeginsAt, EndsWithin}
use Rattle.flight.specs.Places.{moved_by}
use Rattle.step_line.specs.Pieces.{ticks_of}
use Rattle.step_line.specs.Places.{place_after}
use Rattle.units.specs.declared.Steps3.{Steps3}
use Rattle.flight.proofs.Flying.{place_in, place_behind, first_begins}
use Rattle.flight.proofs.Slots.{few_ticks}
use Rattle.flight.proofs.flight.Flight.place.Goals as goal

pub overflow_cast-self-inside : goal.overflow_cast-self-inside
overflow_cast-self-inside c =
    let now = c.args.self.now in
    let first = c.in-Some.first.now in
    let is = c.in-Some.ensures.some in
    let within = subst (λ (ps : List Piece). EndsWithin ps (now.known - now.before)) is.0 c.in-Some.ensures.within in
    let few = few_ticks first is.1 in
    let known : c.self.inside.known ≡ now.known = ap (λ (f : Flying). f.known) c.self.view_is in
    let before : c.self.inside.before ≡ now.before = ap (λ (f : Flying). f.before) c.self.view_is in
    omega (arith, within, few, known, before)

pub returns-in-Some-clause-place : goal.returns-in-Some-clause-place
returns-in-Some-clause-place c = λ start published known is.
    let f = c.args.self.now in
    let p = c.in-Some.first.now in
    let kept_is = c.in-Some.ensures.some.0 in
    let j = c.self.inside.known - c.self.inside.before in
    let from : place_after c.self.inside.mv c.self.inside.events ≡ f.from = ap (λ (f : Flying). f.from) c.self.view_is in
    let known_is : c.self.inside.known ≡ f.known = ap (λ (f : Flying). f.known) c.self.view_is in
    let before_is : c.self.inside.before ≡ f.before = ap (λ (f : Flying). f.before) c.self.view_is in
    let within = subst (λ (ps : List Piece). EndsWithin ps (f.known - f.before)) kept_is c.in-Some.ensures.within in
    c.place_within.ensures.place (subst (λ (at : Steps3). BeginsAt at p) (sym from) (first_begins start f published known p (drop 1 f.kept) is kept_is))
    ∙ ap (λ (at : Steps3). moved_by at (take j (ticks_of p))) from
    ∙ place_in start f published known p (drop 1 f.kept) j is kept_is (omega arith) (omega (arith, within))

pub returns-in-None-clause-place : goal.returns-in-None-clause-place
returns-in-None-clause-place c = λ start published known is.
    c.position_after.ensures.place ∙ ap (λ (f : Flying). f.from) c.self.view_is ∙ place_behind start c.args.self.now published known is (c.in-None.ensures.none.0 refl)
