-- Junctions in either order, and straight back.
use Rattle.std.proofs.Common.{◌≡◌, ℕ, zero, suc, ◌+◌, ◌-◌, ◌*◌, ◌/◌, ◌≤◌, ◌<◌, inl, inr, true, false, min, ℤ, pos, negsuc, neg_ℤ, ◌+ℤ◌, ◌-ℤ◌, ◌*ℤ◌, nat_abs, int_lt, refl, ap, ◌∙◌, arith}
use Rattle.std.specs.Int.{int_div_euclid}
use Rattle.std.proofs.Math.IntN.{*ℤ_comm}
use Rattle.std.proofs.Math.Nat.{min_comm, mul-le-mul, le_of_mul-le-mul_left, div-mul-le_self, lt-div-mul-add}
use Rattle.std.proofs.lemmas.Nat.{le-div}
use Rattle.std.proofs.lemmas.Int.{ints}
use Rattle.std.proofs.lemmas.Bool.{cases_lt}
use Rattle.units.specs.declared.Move.{Move}
use Rattle.units.specs.Roots.{root_of}
use Rattle.units.proofs.Places.{root_is}
use Rattle.line_geom.specs.declared.Geom.{Geom}
use Rattle.line_geom.specs.declared.Cap.TheVariants.{At}
use Rattle.units.specs.Counting.{way}
use Rattle.line_geom.specs.Geometry.{axis_length, IsGeomOf, line_length}
use Rattle.line_geom.proofs.Squares.{root_below}
use Rattle.line_geom.proofs.Geometries.{bounded, unit_size}
use Rattle.line_geom.specs.Junctions.{turn_of, sine_of, corner_of, cap_at, junction_of, squared_length, IsReversed}
use Rattle.junction_speed.proofs.Caps.{cap_back, cap_corner}

turn_swapped : (p n : Geom) → turn_of p n ≡ turn_of n p
turn_swapped p n =
    ap (λ x. int_div_euclid (neg_ℤ (x +ℤ p.uy *ℤ n.uy +ℤ p.uz *ℤ n.uz)) (pos 1000000)) (*ℤ_comm p.ux n.ux)
    ∙ ap (λ y. int_div_euclid (neg_ℤ (n.ux *ℤ p.ux +ℤ y +ℤ p.uz *ℤ n.uz)) (pos 1000000)) (*ℤ_comm p.uy n.uy)
    ∙ ap (λ z. int_div_euclid (neg_ℤ (n.ux *ℤ p.ux +ℤ n.uy *ℤ p.uy +ℤ z)) (pos 1000000)) (*ℤ_comm p.uz n.uz)

pub junction_swapped : (p n : Geom) (d : ℕ) → junction_of p n d ≡ junction_of n p d
unfolding junction_of
junction_swapped p n d = ap (λ t. cap_at t (min p.accel n.accel) d) (turn_swapped p n) ∙ ap (λ a. cap_at (turn_of n p) a d) (min_comm p.accel n.accel)

-- a number times its negative
square_back : (u v : ℤ) → v ≡ neg_ℤ u → u *ℤ v ≡ neg_ℤ (pos (nat_abs u * nat_abs u))
square_back (pos zero) v e = rw e refl
square_back (pos (suc n)) v e = rw e refl
square_back (negsuc n) v e = rw e refl

sum_back : (a b c : ℕ) → neg_ℤ (neg_ℤ (pos a) +ℤ neg_ℤ (pos b) +ℤ neg_ℤ (pos c)) ≡ pos (a + b + c)
sum_back a b c = omega (arith, ints)

turn_back : (p n : Geom) → IsReversed p n → turn_of p n ≡ pos (squared_length p / 1000000)
turn_back p n is =
    ap (λ x. int_div_euclid (neg_ℤ (x +ℤ p.uy *ℤ n.uy +ℤ p.uz *ℤ n.uz)) (pos 1000000)) (square_back p.ux n.ux is.x)
    ∙ ap (λ y. int_div_euclid (neg_ℤ (neg_ℤ (pos (nat_abs p.ux * nat_abs p.ux)) +ℤ y +ℤ p.uz *ℤ n.uz)) (pos 1000000)) (square_back p.uy n.uy is.y)
    ∙ ap (λ z. int_div_euclid (neg_ℤ (neg_ℤ (pos (nat_abs p.ux * nat_abs p.ux)) +ℤ neg_ℤ (pos (nat_abs p.uy * nat_abs p.uy)) +ℤ z)) (pos 1000000)) (square_back p.uz n.uz is.z)
    ∙ ap (λ s. int_div_euclid s (pos 1000000)) (sum_back (nat_abs p.ux * nat_abs p.ux) (nat_abs p.uy * nat_abs p.uy) (nat_abs p.uz * nat_abs p.uz))

far_back : (c : ℕ) → 1000000 ≤ c → int_lt (pos 999999) (pos c) ≡ true
far_back c h = grind (arith, ints)

pub reversal_stops : (p n : Geom) (d : ℕ) → IsReversed p n → 1000000000000 ≤ squared_length p → junction_of p n d ≡ At 0
unfolding junction_of
reversal_stops p n d is long =
    ap (λ t. cap_at t (min p.accel n.accel) d) (turn_back p n is)
    ∙ cap_back (pos (squared_length p / 1000000)) (min p.accel n.accel) d (far_back (squared_length p / 1000000) (le-div 1000000 (squared_length p) 1000000 (omega arith) (omega arith)))

-- a line of 2 nm or more is no longer than its axes say
line_square : (x y z L : ℕ) → L ≡ line_length x y z → 2 ≤ L → L * L ≤ x * x + y * y + z * z
unfolding line_length
line_square x y z L is two =
    let r : ℕ = root_of (x * x + y * y + z * z) in
    let low = (root_is (x * x + y * y + z * z)).low in
    let same : L ≡ r = omega arith in
    rw same low

-- a unit and a millionth more are no shorter than the axis
part_square : (x L u : ℕ) → 1 ≤ L → u ≡ x * 1000000 / L → 1000000000000 * (x * x) ≤ (u + 1) * (u + 1) * (L * L)
part_square x L u one is =
    let below : x * 1000000 < x * 1000000 / L * L + L = lt-div-mul-add (omega arith) in
    let le : x * 1000000 ≤ (u + 1) * L = rw is (omega (arith, below)) in
    let squares : x * 1000000 * (x * 1000000) ≤ (u + 1) * L * ((u + 1) * L) = mul-le-mul le le in
    omega (arith, squares)

pub units_long : (x y z L u v w : ℕ) → L ≡ line_length x y z → 2 ≤ L → u ≡ x * 1000000 / L → v ≡ y * 1000000 / L → w ≡ z * 1000000 / L
    → 1000000000000 ≤ (u + 1) * (u + 1) + (v + 1) * (v + 1) + (w + 1) * (w + 1)
units_long x y z L u v w is two ux uy uz =
    let some : 1 ≤ L = omega arith in
    let line = line_square x y z L is two in
    let px = part_square x L u some ux in
    let py = part_square y L v some uy in
    let pz = part_square z L w some uz in
    let square : 0 < L * L = let le : 2 * 2 ≤ L * L = mul-le-mul two two in omega (arith, le) in
    le_of_mul-le-mul_left {k = L * L} (omega (arith, line, px, py, pz)) square

-- so the direction of any move is nearly of length 1
squared_low : (mv : Move) (p : Geom) → IsGeomOf mv p → 999993000000 ≤ squared_length p
squared_low mv p of =
    let is = of.geom in
    let bounds = bounded mv of.limits p of.places of.in_range is in
    let direction = bounds.direction in
    let u = nat_abs p.ux in
    let v = nat_abs p.uy in
    let w = nat_abs p.uz in
    let two : 2 ≤ p.length = omega (arith, bounds.length_low, bounds.n_low) in
    let x = axis_length (nat_abs (way mv).x) of.limits.per_mm.x in
    let y = axis_length (nat_abs (way mv).y) of.limits.per_mm.y in
    let z = axis_length (nat_abs (way mv).z) of.limits.per_mm.z in
    let long = units_long x y z p.length u v w is.length two
    (ap nat_abs is.ux ∙ unit_size (way mv).x (x * 1000000 / p.length)) (ap nat_abs is.uy ∙ unit_size (way mv).y (y * 1000000 / p.length)) (ap nat_abs is.uz ∙ unit_size (way mv).z (z * 1000000 / p.length)) in
    omega (arith, long, direction.x, direction.y, direction.z)

-- a corner nearly straight back
corner_back : (m s : ℕ) → s ≤ 1870 → 500 * (m * s / (1000000 - s)) ≤ m
corner_back m s small =
    let k : ℕ = m * s / (1000000 - s) in
    let g : ℕ = 1000000 - s in
    let self : k * g ≤ m * s = div-mul-le_self (m * s) (1000000 - s) in
    let wide : k * 998130 ≤ k * g = mul-le-mul (omega arith) (omega arith) in
    let few : m * s ≤ m * 1870 = mul-le-mul (omega arith) small in
    omega (arith, self, wide, few)

sine_back : (c : ℕ) → 999993 ≤ c → c ≤ 999999 → sine_of (pos c) ≤ 1870
sine_back c low high =
    let gap : nat_abs (pos 1000000 -ℤ pos c) ≤ 7 = omega (arith, ints) in
    root_below (nat_abs (pos 1000000 -ℤ pos c) * 1000000 / 2) (sine_of (pos c)) 1870 (root_is _) (omega (arith, gap))

pub reversal_nearly_stops : (mv : Move) (p n : Geom) (d : ℕ) → IsGeomOf mv p → IsReversed p n → (cap : ℕ) × (junction_of p n d ≡ At cap) × (500 * cap ≤ min p.accel n.accel * d)
unfolding junction_of
reversal_nearly_stops mv p n d of is =
    let c : ℕ = squared_length p / 1000000 in
    let a : ℕ = min p.accel n.accel in
    let turn = ap (λ t. cap_at t a d) (turn_back p n is) in
    let low : 999993 ≤ c = le-div 999993 (squared_length p) 1000000 (omega arith) (omega (arith, squared_low mv p of)) in
    elim (cases_lt 999999 c) [
      | inl back ↦ (0, turn ∙ cap_back (pos c) a d (far_back c back), omega arith)
      | inr near ↦
          let s : ℕ = sine_of (pos c) in
          let small = corner_back (a * d) s (sine_back c low near) in
          (min (corner_of a d s) 18446744073709551615, turn ∙ cap_corner (pos c) a d (not_back c near) (not_on c), omega (arith, small))
    ] where
      not_back : (c : ℕ) → c ≤ 999999 → int_lt (pos 999999) (pos c) ≡ false
      not_back c h = grind (arith, ints)

      not_on : (c : ℕ) → int_lt (pos c) (neg_ℤ (pos 999999)) ≡ false
      not_on c = grind (arith, ints)
