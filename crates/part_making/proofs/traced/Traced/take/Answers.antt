use Rattle.std.proofs.Common.{◌<◌, ◌∙◌, sym, subst, Some, rules}
use Rattle.step_line.specs.declared.Record.TheVariants as kinds
use Rattle.part_making.specs.Judging.{Traced, Goes}
use Rattle.part_making.proofs.Going.{event_goes, event_refused, still_coming, not_true}
use Rattle.part_making.proofs.traced.Traced.take.Goals as goal

pub returns-clause-no : goal.returns-clause-no
returns-clause-no c = λ e next.
    let less : c.args.self.now.out < c.args.self.now.told.head.n = still_coming c.args.self.now c.is_out.ensures.valid (search rules) in
    event_refused c.args.self.now next c.args.bits.now less (λ same. not_true c.is_same_event.result e (c.is_same_event.ensures.1 (c.step.ensures.event ∙ sym same)))

pub returns-clause-yes : goal.returns-clause-yes
returns-clause-yes c = λ e next.
    let less : c.args.self.now.out < c.args.self.now.told.head.n = still_coming c.args.self.now c.is_out.ensures.valid (search rules) in
    let goes = event_goes c.args.self.now next c.args.bits.now c.is_out.ensures.valid less (sym (c.is_same_event.ensures.0 e) ∙ c.step.ensures.event) in
    subst (λ (t : Traced). Goes (record { latest = Some c.args.self.now; next = next }) (kinds.Event c.args.bits.now) (record { latest = Some t; next = next })) (sym c.step.ensures.out) goes
