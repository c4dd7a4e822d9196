use Rattle.std.proofs.Common.{refl, ap, ◌∙◌}
use Rattle.plan_rules.specs.Blocks.{squared}
use Rattle.segment_prep.proofs.Sizes.{tail_nominal}
use Rattle.segment_prep.proofs.Taken.{is_segment, is_next, pace_kept, tail_stands, tail_rapid, some_worked_out, none_worked_out, none_of_none}
use Rattle.segment_prep.proofs.taking.segment_anew.Goals as goal

pub returns-in_default-clause-none : goal.returns-in_default-clause-none
returns-in_default-clause-none g c = none_of_none c.args.plan.now c.args.mode (c.in_default.ensures.none.0 refl)

pub worked_out-requires-clause-block : goal.worked_out-requires-clause-block
worked_out-requires-clause-block g c = c.in-Some.ensures.some.block

pub worked_out-requires-clause-speed : goal.worked_out-requires-clause-speed
worked_out-requires-clause-speed g c =
    tail_rapid c.args.plan.now c.in-Some.tail.now c.speed-w_in.result c.in-Some.ensures.some c.speed-w_in.ensures.speed

pub worked_out-requires-clause-nominal : goal.worked_out-requires-clause-nominal
worked_out-requires-clause-nominal g c =
    let top = c.nominal_of_tail-nominal.ensures in
    tail_nominal c.args.plan.now c.in-Some.tail.now c.nominal_of_tail-nominal.result top.reached c.in-Some.ensures.some
    (top.nominal c.in-Some.tail.now c.in-Some.ensures.some)

pub returns-in_default-worked_out-clause-none : goal.returns-in_default-worked_out-clause-none
returns-in_default-worked_out-clause-none g c =
    none_worked_out c.args.plan.now c.args.mode c.speed-w_in.result c.speed-w_in.ensures.speed (c.in_default-worked_out.ensures.none.0 refl)

pub is_at_pace-requires-clause-block : goal.is_at_pace-requires-clause-block
is_at_pace-requires-clause-block g c = c.in-Some.ensures.some.block

pub is_at_pace-requires-clause-nominal : goal.is_at_pace-requires-clause-nominal
is_at_pace-requires-clause-nominal g c =
    let top = c.nominal_of_tail-nominal.ensures in
    tail_nominal c.args.plan.now c.in-Some.tail.now c.nominal_of_tail-nominal.result top.reached c.in-Some.ensures.some
    (top.nominal c.in-Some.tail.now c.in-Some.ensures.some)

pub keep_pace-requires : goal.keep_pace-requires
keep_pace-requires g c =
    let tail = c.in-Some.ensures.some in
    let nominal = c.nominal_of_tail-nominal.ensures.nominal c.in-Some.tail.now tail in
    let taken = c.in-Some-worked_out.ensures.taken c.args.plan.now c.speed-w_in.ensures.speed c.exit_of_tail-exit.ensures.exit nominal in
    let is = c.if-is_at_pace.ensures refl in
    let top = ap squared nominal in (
      assumption c,
      pace_kept c.args.plan.now c.in-Some.tail.now c.args.mode c.in-Some-worked_out.segment tail is.0
          taken.rule taken.w_in (is.1 ∙ top) (is.2 ∙ top) is.3 taken.cycles c.in-Some-worked_out.ensures.takes_time,
    )

pub returns-then-is_at_pace-clause-none : goal.returns-then-is_at_pace-clause-none
returns-then-is_at_pace-clause-none g c =
    some_worked_out c.args.plan.now c.in-Some.tail.now c.args.mode c.speed-w_in.result c.in-Some.ensures.some c.speed-w_in.ensures.speed
    c.in-Some-worked_out.ensures.none.1

pub returns-then-is_at_pace-clause-segment : goal.returns-then-is_at_pace-clause-segment
returns-then-is_at_pace-clause-segment g c =
    let tail = c.in-Some.ensures.some in
    let nominal = c.nominal_of_tail-nominal.ensures.nominal c.in-Some.tail.now tail in
    is_next c.args.plan.now c.in-Some.tail.now c.args.mode c.in-Some-worked_out.segment tail
    (c.in-Some-worked_out.ensures.taken c.args.plan.now c.speed-w_in.ensures.speed c.exit_of_tail-exit.ensures.exit nominal)

pub returns-then-is_at_pace-clause-rule : goal.returns-then-is_at_pace-clause-rule
returns-then-is_at_pace-clause-rule g c =
    let tail = c.in-Some.ensures.some in
    let nominal = c.nominal_of_tail-nominal.ensures.nominal c.in-Some.tail.now tail in
    let s = c.in-Some-worked_out.segment in
    let taken = c.in-Some-worked_out.ensures.taken c.args.plan.now c.speed-w_in.ensures.speed c.exit_of_tail-exit.ensures.exit nominal in
    is_segment c.args.plan.now c.in-Some.tail.now c.args.mode s.n s.w_out tail taken.rule

pub returns-then-is_at_pace-clause-traceable : goal.returns-then-is_at_pace-clause-traceable
returns-then-is_at_pace-clause-traceable g c = c.in-Some-worked_out.ensures.traceable

pub returns-then-is_at_pace-clause-takes_time : goal.returns-then-is_at_pace-clause-takes_time
returns-then-is_at_pace-clause-takes_time g c = c.in-Some-worked_out.ensures.takes_time

pub returns-else-is_at_pace-clause-none : goal.returns-else-is_at_pace-clause-none
returns-else-is_at_pace-clause-none g c =
    some_worked_out c.args.plan.now c.in-Some.tail.now c.args.mode c.speed-w_in.result c.in-Some.ensures.some c.speed-w_in.ensures.speed
    c.in-Some-worked_out.ensures.none.1

pub returns-else-is_at_pace-clause-segment : goal.returns-else-is_at_pace-clause-segment
returns-else-is_at_pace-clause-segment g c =
    let tail = c.in-Some.ensures.some in
    let nominal = c.nominal_of_tail-nominal.ensures.nominal c.in-Some.tail.now tail in
    is_next c.args.plan.now c.in-Some.tail.now c.args.mode c.in-Some-worked_out.segment tail
    (c.in-Some-worked_out.ensures.taken c.args.plan.now c.speed-w_in.ensures.speed c.exit_of_tail-exit.ensures.exit nominal)

pub returns-else-is_at_pace-clause-rule : goal.returns-else-is_at_pace-clause-rule
returns-else-is_at_pace-clause-rule g c =
    let tail = c.in-Some.ensures.some in
    let nominal = c.nominal_of_tail-nominal.ensures.nominal c.in-Some.tail.now tail in
    let s = c.in-Some-worked_out.segment in
    let taken = c.in-Some-worked_out.ensures.taken c.args.plan.now c.speed-w_in.ensures.speed c.exit_of_tail-exit.ensures.exit nominal in
    is_segment c.args.plan.now c.in-Some.tail.now c.args.mode s.n s.w_out tail taken.rule

pub returns-else-is_at_pace-clause-traceable : goal.returns-else-is_at_pace-clause-traceable
returns-else-is_at_pace-clause-traceable g c = c.in-Some-worked_out.ensures.traceable

pub returns-else-is_at_pace-clause-takes_time : goal.returns-else-is_at_pace-clause-takes_time
returns-else-is_at_pace-clause-takes_time g c = c.in-Some-worked_out.ensures.takes_time

pub nominal_of_tail-nominal-requires : goal.nominal_of_tail-nominal-requires
nominal_of_tail-nominal-requires g c = (assumption c, tail_stands c.args.plan.now c.in-Some.tail.now c.in-Some.ensures.some)

pub exit_of_tail-exit-requires : goal.exit_of_tail-exit-requires
exit_of_tail-exit-requires g c = (assumption c, tail_stands c.args.plan.now c.in-Some.tail.now c.in-Some.ensures.some)

pub tail-requires : goal.tail-requires
tail-requires g c = assumption c

pub speed-w_in-requires : goal.speed-w_in-requires
speed-w_in-requires g c = assumption c
