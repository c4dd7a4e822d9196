use Rattle.std.proofs.Common.{◌+◌, ◌<◌, arith, rules, ap, sym, subst, ◌∙◌, FitsSigned, w8, to_z-of_z}
use Rattle.step_line.specs.Counting.{way, events_of}
use Rattle.step_line.specs.Events.{event_of}
use Rattle.step_line.specs.Tracing.{Trace}
use Rattle.step_line.proofs.Order.{event_by_axes}
use Rattle.step_line.proofs.tracer.Tracer.step.Goals as goal

pub invariant_of-self : goal.invariant_of-self
invariant_of-self c =
    let i = c.self.invariant in
    let k = c.self.inside.done in
    let left : c.self.inside.done < events_of c.self.inside.mv = subst (λ (t : Trace). t.done < events_of t.mv) (sym c.self.view_is) c.requires in (
      i.0,
      i.1,
      i.2,
      omega (arith, i.1, left),
      c.next-x.ensures.rise ∙ i.4,
      c.next-y.ensures.rise ∙ i.5,
      c.next-z.ensures.rise ∙ i.6,
      c.next-x.ensures.step ∙ i.7,
      c.next-y.ensures.step ∙ i.8,
      c.next-z.ensures.step ∙ i.9,
      c.next-x.ensures.next _ _ k i.4 i.13 i.10,
      c.next-y.ensures.next _ _ k i.5 i.13 i.11,
      c.next-z.ensures.next _ _ k i.6 i.13 i.12,
      i.13,
    )

pub returns-clause-event : goal.returns-clause-event
returns-clause-event c =
    let i = c.self.invariant in
    let k = c.self.inside.done in
    let m = c.self.inside.mv in
    let fits_x : FitsSigned w8 c.next-x.result = search rules in
    let fits_y : FitsSigned w8 c.next-y.result = search rules in
    let fits_z : FitsSigned w8 c.next-z.result = search rules in
    let x = to_z-of_z fits_x ∙ c.next-x.ensures.bit (way m).x c.self.inside.n k i.4 i.13 i.7 i.10 in
    let y = to_z-of_z fits_y ∙ c.next-y.ensures.bit (way m).y c.self.inside.n k i.5 i.13 i.8 i.11 in
    let z = to_z-of_z fits_z ∙ c.next-z.ensures.bit (way m).z c.self.inside.n k i.6 i.13 i.9 i.12 in
    event_by_axes m c.self.inside.n (k + 1) _ _ _ i.1 x y z ∙ ap (λ (t : Trace). event_of t.mv (t.done + 1)) c.self.view_is
