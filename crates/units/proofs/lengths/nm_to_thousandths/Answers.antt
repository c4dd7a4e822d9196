use Rattle.std.proofs.Common.{◌≡◌, to_z, of_z, w64, arith, rules}
use Rattle.units.specs.Rounding.{rounded_quotient}
use Rattle.units.proofs.Nearest.{nearest}
use Rattle.units.proofs.lengths.nm_to_thousandths.Goals as goal

pub returns-clause-sign : goal.returns-clause-sign
returns-clause-sign c =
    let e : to_z w64 (of_z w64 c.rounded_quotient.result) ≡ rounded_quotient c.args.nm 1000 = search rules in
    rw e (nearest c.args.nm 1000 (omega arith)).sign
