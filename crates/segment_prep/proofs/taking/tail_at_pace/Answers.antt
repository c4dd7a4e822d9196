use Rattle.std.proofs.Common.{arith, ap}
use Rattle.step_line.specs.declared.Segment.{Segment}
use Rattle.segment_prep.proofs.Taken.{at_pace, taken_at_pace, rule_at_pace, traceable_at_pace}
use Rattle.segment_prep.proofs.taking.tail_at_pace.Goals as goal

pub returns-clause-segment : goal.returns-clause-segment
returns-clause-segment g c = taken_at_pace c.args.plan.now c.args.tail.now c.args.pace c.at_pace.result c.requires.tail c.requires.steady c.at_pace.ensures

pub returns-clause-rule : goal.returns-clause-rule
returns-clause-rule g c = rule_at_pace c.args.plan.now c.args.tail.now c.args.pace c.at_pace.result c.requires.tail c.requires.steady c.at_pace.ensures

pub returns-clause-traceable : goal.returns-clause-traceable
returns-clause-traceable g c =
    traceable_at_pace c.args.plan.now c.args.tail.now c.args.pace c.at_pace.result c.requires.tail c.requires.steady c.at_pace.ensures
    (omega (arith, c.at_pace.type_inv)) (omega (arith, c.at_pace.type_inv))

pub returns-clause-takes_time : goal.returns-clause-takes_time
returns-clause-takes_time g c =
    let is = at_pace c.args.plan.now c.args.tail.now c.args.pace c.requires.tail c.requires.steady in
    let same = ap (λ (s : Segment). s.cycles) c.at_pace.ensures in
    omega (arith, is.some.1, same)
