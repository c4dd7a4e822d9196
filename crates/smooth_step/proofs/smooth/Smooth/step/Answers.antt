use Rattle.std.proofs.Common.{◌≡◌, [], ◌∷◌, ◌++◌, ◌+◌, ◌*◌, ◌<◌, arith, ap, sym, subst, ◌∙◌}
use Rattle.units.specs.Counting.{events_of}
use Rattle.step_line.specs.Tracing.{Trace}
use Rattle.smooth_step.specs.Subticks.{subticks_of}
use Rattle.smooth_step.specs.Counters.{AreAxes}
use Rattle.smooth_step.proofs.Parts.{event_on, subticks_are, whole_is}
use Rattle.smooth_step.proofs.smooth.Smooth.step.Goals as goal

pub invariant_of-self : goal.invariant_of-self
invariant_of-self c =
    let i = c.self.invariant in
    let m = c.self.inside.mv in
    let done = c.self.inside.done in
    let left : c.self.inside.done < events_of c.self.inside.mv = subst (λ (t : Trace). t.done < events_of t.mv) (sym c.self.view_is) c.requires.left in
    let later : 8 * done + 8 ≡ 8 * (done + 1) = omega arith in
    (i.0, i.1, i.2, omega (arith, i.1, left), c.part-whole.ensures.can, subst (λ u. AreAxes c.part-whole.new.self m u) later (c.part-whole.ensures.next m (8 * done) i.1 i.5))

pub returns-then-level-eq0-clause-subticks : goal.returns-then-level-eq0-clause-subticks
returns-then-level-eq0-clause-subticks c =
    let i = c.self.invariant in
    let m = c.self.inside.mv in
    let done = c.self.inside.done in
    c.push.ensures.items
    ∙ ap (λ l. l ++ c.part-whole.result ∷ []) c.new-parts.ensures
    ∙ ap (λ b. b ∷ []) (c.part-whole.ensures.bits m (8 * done) i.1 i.5)
    ∙ whole_is m done c.args.level c.if-level-eq0.true
    ∙ ap (λ (t : Trace). subticks_of t.mv c.args.level (t.done + 1)) c.self.view_is

pub invariant_of-self-2 : goal.invariant_of-self-2
invariant_of-self-2 c =
    let i = c.self.invariant in
    let m = c.self.inside.mv in
    let done = c.self.inside.done in
    let left : c.self.inside.done < events_of c.self.inside.mv = subst (λ (t : Trace). t.done < events_of t.mv) (sym c.self.view_is) c.requires.left in (
      i.0,
      i.1,
      i.2,
      omega (arith, i.1, left),
      c.pairs.ensures.can,
      event_on c.pairs.new.self m done c.width_of.result (2 * c.pairs_at.result) c.args.level c.requires.level c.width_of.ensures.width c.pairs_at.ensures.count
          (c.pairs.ensures.next m (8 * done) i.1 i.5),
    )

pub returns-clause-subticks : goal.returns-clause-subticks
returns-clause-subticks c =
    let i = c.self.invariant in
    let m = c.self.inside.mv in
    let done = c.self.inside.done in
    c.pairs.ensures.parts m (8 * done) i.1 i.5
    ∙ subticks_are m done c.width_of.result (2 * c.pairs_at.result) c.args.level c.width_of.ensures.width c.pairs_at.ensures.count
    ∙ ap (λ (t : Trace). subticks_of t.mv c.args.level (t.done + 1)) c.self.view_is
