use Rattle.std.proofs.Common.{[], refl, ap, length, ◌∙◌, arith}
use Rattle.plan_rules.specs.Blocks.{hard_of}
use Rattle.plan_rules.specs.Plans.{Planned}
use Rattle.plan_rules.proofs.Reached.{plan_of}
use Rattle.plan_rules.specs.Blocks.{nominal_speed}
use Rattle.plan_passes.proofs.Filling.{number_none, joints_none}
use Rattle.plan_passes.proofs.Kept.{kept_none}
use Rattle.plan_passes.proofs.Paces.{no_pace}
use Rattle.plan_passes.proofs.plan.Plan.clear.Goals as goal

pub invariant_of-self : goal.invariant_of-self
invariant_of-self g c =
    let p = c.self.inside in
    let kept = c.self.invariant.0 in
    let bs = c.clear.new.self in
    let o = p.overrides in
    let none = ap length c.clear.ensures in (
      kept_none g.row.N bs o p.planned p.gaps p.softs kept.some kept.few kept.reached.overrides c.clear.ensures,
      no_pace bs o _ refl,
      number_none (nominal_speed o) bs p.nominals none,
      joints_none hard_of bs p.hards none,
    )

pub returns : goal.returns
returns g c =
    ap (λ bs. plan_of bs 0 c.self.inside.overrides) c.clear.ensures
    ∙ ap (λ (p : Planned). record p { blocks = []; speed = 0 }) c.self.view_is

pub clear-requires : goal.clear-requires
clear-requires g c = omega (arith, c.self.invariant.0.few)
