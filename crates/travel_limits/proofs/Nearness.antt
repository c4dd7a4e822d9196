-- A point that is not far is near.
use Rattle.std.proofs.Common.{◌≡◌, false, ◌||◌, nat_lt, nat_abs, arith}
use Rattle.std.proofs.lemmas.Bool.{or_parts}
use Rattle.std.proofs.lemmas.Bool.Decides.{nat_tests}
use Rattle.units.specs.declared.Nm3.{Nm3}
use Rattle.travel_limits.specs.Reach.{IsNear, is_far}

pub near_is : (at : Nm3) → is_far at ≡ false → IsNear at
near_is at e =
    let outer = or_parts (nat_lt 10000000000 (nat_abs at.x) || nat_lt 10000000000 (nat_abs at.y)) (nat_lt 10000000000 (nat_abs at.z)) e in
    let inner = or_parts (nat_lt 10000000000 (nat_abs at.x)) (nat_lt 10000000000 (nat_abs at.y)) outer.0 in
    record { x = grind (arith, nat_tests, inner.0); y = grind (arith, nat_tests, inner.1); z = grind (arith, nat_tests, outer.1) }
