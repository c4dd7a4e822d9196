use Rattle.std.proofs.Common.{pos, ◌*ℤ◌, arith, rules}
use Rattle.units.proofs.Nearest.{quotient_keeps, quotient_small}
use Rattle.units.proofs.Quotients.{factor, nm_fit, told}
use Rattle.units.proofs.lengths.to_nm.Goals as goal

pub overflow_mul-steps : goal.overflow_mul-steps
overflow_mul-steps c = rw (factor c.args.steps 1000000000 c.ranges.steps) (nm_fit c.args.steps 1000000000 c.requires.steps (omega arith))

pub returns : goal.returns
returns c =
    let steps = c.args.steps in
    let per_mm = c.args.per_mm in
    let is = told c.rounded_quotient.result _ (steps *ℤ pos 1000000000) per_mm (search rules) (nm_fit steps 1000000000 c.requires.steps (omega arith))
    (factor steps 1000000000 c.ranges.steps) c.rounded_quotient.ensures.value in
    record {
      nm = is;
      small = rw is (quotient_small steps 1000000000 per_mm 100000000000000 (omega arith) (omega arith));
      sign = rw is (quotient_keeps steps 1000000000 per_mm (omega arith));
    }
