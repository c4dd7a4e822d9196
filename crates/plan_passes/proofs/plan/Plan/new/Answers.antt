use Rattle.std.proofs.Common.{refl, rules, ap, length, arith}
use Rattle.plan_rules.specs.Blocks.{hard_of}
use Rattle.plan_rules.specs.Blocks.{nominal_speed}
use Rattle.plan_passes.proofs.Filling.{number_none, joints_none}
use Rattle.plan_passes.proofs.Kept.{kept_none}
use Rattle.plan_passes.proofs.Paces.{no_pace}
use Rattle.plan_passes.proofs.plan.Plan.new.Goals as goal

pub new-requires-2 : goal.new-requires-2
new-requires-2 g c = (search rules, c.requires.1)

pub new-requires-3 : goal.new-requires-3
new-requires-3 g c = (search rules, c.requires.1)

pub new-requires-4 : goal.new-requires-4
new-requires-4 g c = (search rules, c.requires.1)

pub new-requires-5 : goal.new-requires-5
new-requires-5 g c = (search rules, c.requires.1)

pub new-requires-6 : goal.new-requires-6
new-requires-6 g c = (search rules, c.requires.1)

pub invariant_of-result : goal.invariant_of-result
invariant_of-result g c =
    let bs = c.new.result in
    let o = c.normal.result in
    let none = ap length c.new.ensures in (
      kept_none g.row.N bs o c.new-2.result c.new-3.result c.new-5.result c.requires.0 c.requires.1 c.normal.ensures.range c.new.ensures,
      no_pace bs o _ refl,
      number_none (nominal_speed o) bs c.new-6.result none,
      joints_none hard_of bs c.new-4.result none,
    )

pub returns-clause-blocks : goal.returns-clause-blocks
returns-clause-blocks g c = c.new.ensures

pub returns-clause-speed : goal.returns-clause-speed
returns-clause-speed g c = refl

pub returns-clause-overrides : goal.returns-clause-overrides
returns-clause-overrides g c = c.normal.ensures.whole

pub new-requires : goal.new-requires
new-requires g c = (omega (arith, c.requires.1), c.requires)

pub normal-requires : goal.normal-requires
normal-requires g c = tt
