use Rattle.std.proofs.Common.{◌≡◌, ℕ, ◌+◌, ◌<◌, length, refl, arith, rules, ap, sym, subst, ◌∙◌, take, ◌-◌, ◌↔◌, true, false, [], ◌∷◌, ◌++◌}
use Rattle.std.proofs.lemmas.List.{length_push}
use Rattle.plan_rules.specs.Plans.{Planned, added}
use Rattle.plan_rules.specs.Blocks.{gap_of, hard_of, hards_of}
use Rattle.plan_passes.proofs.Filling.{numbers_before, joints_before, softs_before, row_small}
use Rattle.plan_rules.proofs.Reached.{fresh_block, added_reached, plan_of}
use Rattle.plan_passes.proofs.Kept.{kept_anew}
use Rattle.plan_passes.proofs.Nominals.{nominals_before}
use Rattle.plan_passes.proofs.Onward.{onward_more, onward_before}
use Rattle.plan_passes.proofs.Paces.{pace_added}
use Rattle.plan_passes.specs.Tables.{KeepsPlan, nominals_of}
use Rattle.plan_passes.specs.Paces.{IsPaceOfTail}
use Rattle.plan_passes.proofs.plan.Plan.add.Goals as goal

pub put_gap-requires : goal.put_gap-requires
put_gap-requires g c =
    let p = c.self.inside in
    let block = fresh_block c.args.b c.entry_cap-entry.result c.requires.rate c.requires.geom c.requires.fresh in
    let reached = added_reached p.ring c.push.new.self p.speed p.overrides c.args.o.now _
    c.in-Ok.ensures.ok c.self.invariant.0.reached block c.requires.overrides in
    let more : length c.push.new.self ≡ length p.ring + 1 = ap length c.in-Ok.ensures.ok ∙ length_push p.ring _ in
    let before = numbers_before gap_of p.ring c.push.new.self _ p.gaps c.in-Ok.ensures.ok c.self.invariant.0.tabled.gaps in
    (omega (arith, c.self.invariant.0.few), (search rules, (omega (arith, more), (reached.each, before))))

pub put_soft-requires : goal.put_soft-requires
put_soft-requires g c =
    let p = c.self.inside in
    let block = fresh_block c.args.b c.entry_cap-entry.result c.requires.rate c.requires.geom c.requires.fresh in
    let reached = added_reached p.ring c.push.new.self p.speed p.overrides c.args.o.now _
    c.in-Ok.ensures.ok c.self.invariant.0.reached block c.requires.overrides in
    let more : length c.push.new.self ≡ length p.ring + 1 = ap length c.in-Ok.ensures.ok ∙ length_push p.ring _ in
    let same : 0 < length p.ring → c.args.o.now ≡ p.overrides = λ some.
    c.requires.same (subst (λ (p : Planned). 0 < length p.blocks) c.self.view_is some) ∙ ap (λ (p : Planned). p.overrides) (sym c.self.view_is) in
    let nominals = nominals_before c.args.o.now p.overrides p.ring c.push.new.self _ p.nominals c.in-Ok.ensures.ok same c.self.invariant.2 in
    let softs = softs_before c.args.o.now p.overrides p.ring c.push.new.self _ p.softs c.in-Ok.ensures.ok same c.self.invariant.0.tabled.softs in
    let hards = joints_before hard_of p.ring c.push.new.self _ p.hards c.in-Ok.ensures.ok c.self.invariant.3 in
    (omega (arith, c.self.invariant.0.few), (search rules, (omega (arith, more), (reached.each, (c.requires.overrides, (nominals, (hards, softs)))))))

pub plan_from-self-inside-requires : goal.plan_from-self-inside-requires
plan_from-self-inside-requires g c =
    let p = c.self.inside in
    let block = fresh_block c.args.b c.entry_cap-entry.result c.requires.rate c.requires.geom c.requires.fresh in
    let reached = added_reached p.ring c.push.new.self p.speed p.overrides c.args.o.now _
    c.in-Ok.ensures.ok c.self.invariant.0.reached block c.requires.overrides in
    let same : 0 < length p.ring → c.args.o.now ≡ p.overrides = λ some.
    c.requires.same (subst (λ (p : Planned). 0 < length p.blocks) c.self.view_is some) ∙ ap (λ (p : Planned). p.overrides) (sym c.self.view_is) in
    let behind = λ (some : 0 < c.len-count.result). onward_before p.ring c.push.new.self _ p.speed p.settled c.len-count.result p.overrides
    c.in-Ok.ensures.ok c.len-count.ensures.len c.self.invariant.0.pointer in
    let small = λ (i : ℕ). row_small c.push.new.self c.len-count.result c.put_gap.new.gaps i c.len-count.ensures.len c.put_gap.ensures reached.each in
    let onward = λ (some : 0 < c.len-count.result). onward_more p.speed c.len-count.result p.settled p.ring c.push.new.self _ p.overrides c.args.o.now p.planned
    c.put_gap.new.gaps c.put_soft.new.softs c.in-Ok.ensures.ok same c.len-count.ensures.len
    (record { gaps = c.put_gap.ensures; softs = c.put_soft.ensures.softs }) c.self.invariant.0.pointer c.self.invariant.0.planned reached in
    let few = c.self.invariant.0.few in
    let count = c.len-count.ensures.few in (
      omega (arith, few),
      (
        search rules,
        (
          few,
          (
            omega (arith, count),
            (
              behind,
              (
                small,
                onward,
              ),
            ),
          ),
        ),
      ),
    )

pub invariant_of-self-in-Ok : goal.invariant_of-self-in-Ok
invariant_of-self-in-Ok g c =
    let p = c.self.inside in
    let kept = c.self.invariant.0 in
    let block = fresh_block c.args.b c.entry_cap-entry.result c.requires.rate c.requires.geom c.requires.fresh in
    let reached = added_reached p.ring c.push.new.self p.speed p.overrides c.args.o.now _
    c.in-Ok.ensures.ok kept.reached block c.requires.overrides in
    let more : length c.push.new.self ≡ length p.ring + 1 = ap length c.in-Ok.ensures.ok ∙ length_push p.ring _ in
    let room = c.in-Ok.ensures.room.0 refl in
    let same : 0 < length p.ring → c.args.o.now ≡ p.overrides = λ some.
    c.requires.same (subst (λ (p : Planned). 0 < length p.blocks) c.self.view_is some) ∙ ap (λ (p : Planned). p.overrides) (sym c.self.view_is) in (
      kept_anew g.row.N p.speed c.len-count.result c.plan_from-self-inside.result c.push.new.self c.args.o.now c.plan_from-self-inside.new.speeds c.put_gap.new.gaps c.put_soft.new.softs
          kept.some kept.few (omega (arith, more, room)) reached (record { gaps = c.put_gap.ensures; softs = c.put_soft.ensures.softs })
          c.len-count.ensures.len c.plan_from-self-inside.ensures.planned c.plan_from-self-inside.ensures.settled c.plan_from-self-inside.ensures.none,
      pace_added p.ring c.push.new.self _ p.overrides c.args.o.now p.pace c.in-Ok.ensures.ok same c.self.invariant.1,
      c.put_soft.ensures.nominals,
      c.put_soft.ensures.hards,
    )

pub entry_cap-entry-requires : goal.entry_cap-entry-requires
entry_cap-entry-requires g c = omega (arith, c.self.invariant.0.few)

pub push-requires : goal.push-requires
push-requires g c = omega (arith, c.self.invariant.0.few)

pub invariant_of-self : goal.invariant_of-self
invariant_of-self g c =
    let p = c.self.inside in
    subst (λ bs. KeepsPlan g.row.N (plan_of bs p.speed p.overrides) p.planned p.gaps p.softs p.settled × IsPaceOfTail p.overrides bs p.pace
    × (take (length bs) p.nominals ≡ nominals_of p.overrides bs) × (take (length bs - 1) p.hards ≡ hards_of bs)) (sym c.in-Err.ensures.full) c.self.invariant

pub len-count-requires : goal.len-count-requires
len-count-requires g c = omega (arith, c.self.invariant.0.few)

pub returns-in-Err-clause-room : goal.returns-in-Err-clause-room
returns-in-Err-clause-room g c =
    subst (λ (q : Planned). (false ≡ true) ↔ (length q.blocks + 1 < g.row.N)) c.self.view_is c.in-Err.ensures.room

pub returns-in-Err-clause-ok : goal.returns-in-Err-clause-ok
returns-in-Err-clause-ok g c = tt

pub returns-in-Err-clause-full : goal.returns-in-Err-clause-full
returns-in-Err-clause-full g c =
    ap (λ bs. plan_of bs c.self.inside.speed c.self.inside.overrides) c.in-Err.ensures.full ∙ c.self.view_is

pub returns-in-Err-clause-back : goal.returns-in-Err-clause-back
returns-in-Err-clause-back g c = refl

pub returns-in-Ok-clause-room : goal.returns-in-Ok-clause-room
returns-in-Ok-clause-room g c =
    subst (λ (q : Planned). (true ≡ true) ↔ (length q.blocks + 1 < g.row.N)) c.self.view_is c.in-Ok.ensures.room

pub returns-in-Ok-clause-ok : goal.returns-in-Ok-clause-ok
returns-in-Ok-clause-ok g c =
    let p = c.self.inside in
    let b = c.args.b in
    let o = c.args.o.now in
    ap (λ bs. plan_of bs p.speed o) c.in-Ok.ensures.ok
    ∙ ap (λ entry. plan_of (p.ring ++ record b { entry = entry } ∷ []) p.speed o) c.entry_cap-entry.ensures
    ∙ ap (λ (q : Planned). added q b c.args.deviation o) c.self.view_is

pub returns-in-Ok-clause-full : goal.returns-in-Ok-clause-full
returns-in-Ok-clause-full g c = tt

pub returns-in-Ok-clause-back : goal.returns-in-Ok-clause-back
returns-in-Ok-clause-back g c = tt
