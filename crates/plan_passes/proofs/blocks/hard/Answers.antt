use Rattle.std.proofs.Common.{◌*◌, min, arith, ap, sym, ◌∙◌}
use Rattle.plan_rules.specs.Blocks.{under, hard_of}
use Rattle.plan_rules.proofs.Bounds.{rapid_small}
use Rattle.plan_passes.proofs.blocks.hard.Goals as goal

pub overflow_mul-a : goal.overflow_mul-a
overflow_mul-a c = omega (arith, rapid_small c.args.a.now c.requires.first)

pub overflow_mul-b : goal.overflow_mul-b
overflow_mul-b c = omega (arith, rapid_small c.args.b.now c.requires.second)

pub returns-in-At : goal.returns-in-At
unfolding hard_of
returns-in-At c =
    let a = c.args.a.now.geom.rapid in
    let b = c.args.b.now.geom.rapid in
    c.min.ensures ∙ ap (λ r. min c.in-At.cap r) c.min-rapid.ensures ∙ sym (ap (λ e. under e (min (a * a) (b * b))) c.in-At.is)

pub returns-in-Free : goal.returns-in-Free
unfolding hard_of
returns-in-Free c =
    let a = c.args.a.now.geom.rapid in
    let b = c.args.b.now.geom.rapid in
    c.min-rapid.ensures ∙ sym (ap (λ e. under e (min (a * a) (b * b))) c.in-Free.is)
