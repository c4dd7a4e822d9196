use Rattle.segment_prep.proofs.Taken.{some_at_pace}
use Rattle.segment_prep.proofs.taking.segment_next.Goals as goal

pub returns-in-Some-clause-none : goal.returns-in-Some-clause-none
returns-in-Some-clause-none g c =
    some_at_pace c.args.plan.now c.args.mode c.in-Some.segment c.in-Some.ensures.going c.in-Some.ensures.segment

pub returns-in-Some-clause-segment : goal.returns-in-Some-clause-segment
returns-in-Some-clause-segment g c = c.in-Some.ensures.segment

pub returns-in-Some-clause-rule : goal.returns-in-Some-clause-rule
returns-in-Some-clause-rule g c = c.in-Some.ensures.rule

pub returns-in-Some-clause-traceable : goal.returns-in-Some-clause-traceable
returns-in-Some-clause-traceable g c = c.in-Some.ensures.traceable

pub returns-in-Some-clause-takes_time : goal.returns-in-Some-clause-takes_time
returns-in-Some-clause-takes_time g c = c.in-Some.ensures.takes_time

pub returns-in-None-clause-none : goal.returns-in-None-clause-none
returns-in-None-clause-none g c = c.segment_anew.ensures.none

pub returns-in-None-clause-segment : goal.returns-in-None-clause-segment
returns-in-None-clause-segment g c = c.segment_anew.ensures.segment

pub returns-in-None-clause-rule : goal.returns-in-None-clause-rule
returns-in-None-clause-rule g c = c.segment_anew.ensures.rule

pub returns-in-None-clause-traceable : goal.returns-in-None-clause-traceable
returns-in-None-clause-traceable g c = c.segment_anew.ensures.traceable

pub returns-in-None-clause-takes_time : goal.returns-in-None-clause-takes_time
returns-in-None-clause-takes_time g c = c.segment_anew.ensures.takes_time

pub segment_at_pace-requires : goal.segment_at_pace-requires
segment_at_pace-requires g c = assumption c

pub segment_anew-requires : goal.segment_anew-requires
segment_anew-requires g c = assumption c
