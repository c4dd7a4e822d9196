use Rattle.std.proofs.Common.{sym, subst}
use Rattle.plan_rules.specs.declared.Mode.{Mode}
use Rattle.plan_rules.specs.Taking.{IsNext}
use Rattle.segment_prep.proofs.taking.segment_at_pace.Goals as goal

pub returns-in-Some-tail-clause-going : goal.returns-in-Some-tail-clause-going
returns-in-Some-tail-clause-going g c = c.in-Go.is

pub returns-in-Some-tail-clause-segment : goal.returns-in-Some-tail-clause-segment
returns-in-Some-tail-clause-segment g c =
    subst (λ (mode : Mode). IsNext c.args.plan.now mode c.tail_at_pace.result) (sym c.in-Go.is) c.tail_at_pace.ensures.segment

pub returns-in-Some-tail-clause-rule : goal.returns-in-Some-tail-clause-rule
returns-in-Some-tail-clause-rule g c = c.tail_at_pace.ensures.rule

pub returns-in-Some-tail-clause-traceable : goal.returns-in-Some-tail-clause-traceable
returns-in-Some-tail-clause-traceable g c = c.tail_at_pace.ensures.traceable

pub returns-in-Some-tail-clause-takes_time : goal.returns-in-Some-tail-clause-takes_time
returns-in-Some-tail-clause-takes_time g c = c.tail_at_pace.ensures.takes_time

pub steady-requires : goal.steady-requires
steady-requires g c = assumption c

pub tail-requires : goal.tail-requires
tail-requires g c = assumption c

pub tail_at_pace-requires : goal.tail_at_pace-requires
tail_at_pace-requires g c = (assumption c, (c.in-Some-tail.ensures.some, c.in-Some.ensures.steady))
