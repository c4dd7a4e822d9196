use Rattle.std.proofs.Common.{◌≡◌, ◌+◌, ◌-◌, ◌<◌, ◌^◌, length, get_or, take, drop, arith, ap, sym, subst, ◌∙◌}
use Rattle.profile.specs.Caps.{caps, planned}
use Rattle.profile.specs.Settled.{IsLastSettled}
use Rattle.plan_passes.specs.Tables.{IsOnward}
use Rattle.plan_passes.proofs.Rows.{first_at, written_at, length-standing}
use Rattle.plan_passes.proofs.passes.plan_from.Goals as goal

pub plan_points-requires : goal.plan_points-requires
plan_points-requires g c =
    let r = c.speeds.inside in
    let k = r.start + c.args.count + 1 - r.start in
    let part = take k (drop r.start r.places) in
    let on : k ≡ c.args.count + 1 = omega arith in
    let some : 0 < c.args.count = omega arith in
    let room = c.requires.room in
    let gaps = c.first.ensures in
    let softs = c.first-2.ensures in
    let onward = c.requires.onward some in
    let long : length part ≡ k = length-standing k r.start r.places (omega (arith, c.speeds.invariant, on, room)) in
    let before = c.requires.before some in
    let moved : IsOnward c.args.w c.args.from (take c.args.count c.args.gaps.now) (take (c.args.count - 1) c.args.softs.now) part = record {
      first = onward.first;
      planned_to = λ j h l.
          first_at g.row.N r.start r.places k j 0 (omega (arith, l, before, on)) (omega (arith, on, room))
          ∙ ap (λ xs. get_or xs j 0) c.speeds.view_is ∙ onward.planned_to j h l;
      settled = onward.settled;
    } in
    record {
      few = omega (arith, gaps.long, c.requires.few, room);
      junctions = omega (arith, gaps.long, softs.long, some);
      room = omega (arith, long, on, gaps.long);
      before = omega (arith, before, gaps.long);
      small = λ i. subst (λ xs. get_or xs i 0 < 2 ^ 71) (sym gaps.part) (c.requires.small i);
      onward = subst (λ xs. IsOnward c.args.w c.args.from xs c.first-2.result.now part) (sym gaps.part)
          (subst (λ xs. IsOnward c.args.w c.args.from (take c.args.count c.args.gaps.now) xs part) (sym softs.part) moved);
    }

pub returns-clause-planned : goal.returns-clause-planned
returns-clause-planned g c = λ j some h.
    let r = c.speeds.inside in
    let gaps = c.first.ensures in
    let softs = c.first-2.ensures in
    let room = c.plan_points.ensures.room in
    written_at g.row.N r.start r.places (r.start + c.args.count + 1 - r.start) c.plan_points.new.speeds j 0
    (omega (arith, c.speeds.invariant)) (omega (arith, room, gaps.long, h)) (omega (arith, room, gaps.long, c.requires.room))
    ∙ c.plan_points.ensures.planned j some (omega (arith, h, gaps.long))
    ∙ ap (λ xs. planned c.args.w xs c.first-2.result.now j) gaps.part
    ∙ ap (λ xs. planned c.args.w (take c.args.count c.args.gaps.now) xs j) softs.part

pub returns-clause-settled : goal.returns-clause-settled
returns-clause-settled g c = λ some.
    let gaps = c.first.ensures in
    let softs = c.first-2.ensures in
    subst (λ xs. IsLastSettled xs (caps c.args.w xs (take (c.args.count - 1) c.args.softs.now)) c.plan_points.result) gaps.part
    (subst (λ xs. IsLastSettled c.first.result.now (caps c.args.w c.first.result.now xs) c.plan_points.result) softs.part c.plan_points.ensures.settled)
