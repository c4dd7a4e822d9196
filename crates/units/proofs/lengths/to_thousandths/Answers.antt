use Rattle.std.proofs.Common.{◌≡◌, pos, ◌*ℤ◌, to_z, of_z, w64, arith, rules}
use Rattle.units.specs.Rounding.{rounded_quotient}
use Rattle.units.proofs.Nearest.{quotient_keeps, quotient_small}
use Rattle.units.proofs.Quotients.{factor, nm_fit, told}
use Rattle.units.proofs.lengths.to_thousandths.Goals as goal

pub overflow_mul-steps : goal.overflow_mul-steps
overflow_mul-steps c = rw (factor c.args.steps 1000000 c.ranges.steps) (nm_fit c.args.steps 1000000 c.requires.steps (omega arith))

pub returns-clause-thousandths : goal.returns-clause-thousandths
returns-clause-thousandths c =
    told c.rounded_quotient.result _ _ _ (search rules) (nm_fit c.args.steps 1000000 c.requires.steps (omega arith)) (factor c.args.steps 1000000 c.ranges.steps) c.rounded_quotient.ensures.value

pub returns-clause-small : goal.returns-clause-small
returns-clause-small c =
    let fits = nm_fit c.args.steps 1000000 c.requires.steps (omega arith) in
    let e : to_z w64 (of_z w64 c.rounded_quotient.result) ≡ rounded_quotient (c.args.steps *ℤ pos 1000000) c.args.per_mm =
    told c.rounded_quotient.result _ _ _ (search rules) fits (factor c.args.steps 1000000 c.ranges.steps) c.rounded_quotient.ensures.value in
    rw e (quotient_small c.args.steps 1000000 c.args.per_mm 100000000000 (omega arith) (omega arith))

pub returns-clause-sign : goal.returns-clause-sign
returns-clause-sign c =
    let fits = nm_fit c.args.steps 1000000 c.requires.steps (omega arith) in
    let e : to_z w64 (of_z w64 c.rounded_quotient.result) ≡ rounded_quotient (c.args.steps *ℤ pos 1000000) c.args.per_mm =
    told c.rounded_quotient.result _ _ _ (search rules) fits (factor c.args.steps 1000000 c.ranges.steps) c.rounded_quotient.ensures.value in
    rw e (quotient_keeps c.args.steps 1000000 c.args.per_mm (omega arith))
