use Rattle.std.proofs.Common.{◌*◌, ◌≤◌, pos, nat_abs, ◌*ℤ◌, rules, lit<}
use Rattle.std.proofs.Math.Nat.{mul-le-mul}
use Rattle.units.proofs.Nearest.{quotient_keeps, quotient_small}
use Rattle.units.proofs.Quotients.{factors, steps_fit, told}
use Rattle.units.proofs.lengths.to_steps.Goals as goal

pub overflow_mul-nm : goal.overflow_mul-nm
overflow_mul-nm c = rw (factors c.args.nm c.args.per_mm c.ranges.nm c.requires.scale.1) (steps_fit c.args.nm c.args.per_mm c.requires.length c.requires.scale.1)

pub returns : goal.returns
returns c =
    let nm = c.args.nm in
    let per_mm = c.args.per_mm in
    let is = told c.rounded_quotient.result _ (nm *ℤ pos per_mm) 1000000000 (search rules) (steps_fit nm per_mm c.requires.length c.requires.scale.1)
    (factors nm per_mm c.ranges.nm c.requires.scale.1) c.rounded_quotient.ensures.value in
    let le : nat_abs nm * per_mm ≤ 10000000000 * 10000000 = mul-le-mul c.requires.length c.requires.scale.1 in
    record {
      steps = is;
      few = rw is (quotient_small nm per_mm 1000000000 100000000 (lit< tt) le);
      sign = rw is (quotient_keeps nm per_mm 1000000000 (lit< tt));
    }
