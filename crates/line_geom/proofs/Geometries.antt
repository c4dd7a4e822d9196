-- A move has one geometry, and it is within bounds.
use Rattle.std.proofs.Common.{◌≡◌, ℕ, ℤ, zero, suc, ◌*◌, ◌/◌, ◌≤◌, ◌<◌, false, cond, nat_eq, max, Some, None, pos, negsuc, nat_abs, ◌-ℤ◌, refl, ◌∙◌, ap, subst, arith}
use Rattle.std.proofs.lemmas.Bool.Decides.{nat_tests}
use Rattle.std.proofs.lemmas.Int.{ints}
use Rattle.units.specs.declared.Move.{Move}
use Rattle.units.specs.declared.Limits.{Limits}
use Rattle.units.specs.Rounding.{with_sign_of}
use Rattle.units.specs.Lengths.{IsMove}
use Rattle.units.specs.Limits.{IsLimits}
use Rattle.line_geom.specs.declared.Geom.{Geom}
use Rattle.units.specs.Counting.{way, events_of}
use Rattle.line_geom.specs.Geometry.{axis_length, length_of, unit_of, axis_caps, least, geom_of, geometry, IsGeom, IsDirection, IsBounded}
use Rattle.line_geom.proofs.Lines.{axis_low, axis_high, line_x, line_y, line_z, line_le, unit_high, main_of, least_bounds, change_low, change_high}

some_geometry : (n : ℕ) (g : Geom) → 0 < n → cond (nat_eq n 0) None (Some g) ≡ Some g
some_geometry n g h = let some : nat_eq n 0 ≡ false = grind (arith, nat_tests) in rw some refl

-- the fields determine the geometry: the same with any formulas
rebuilt : (N L₀ : ℕ) (U V W : ℕ → ℤ) (A R : ℤ → ℤ → ℤ → ℕ) (Q : ℕ → ℕ → ℕ → ℕ) (n L : ℕ) (ux uy uz : ℤ) (a r q : ℕ)
    → n ≡ N → L ≡ L₀ → ux ≡ U L → uy ≡ V L → uz ≡ W L → a ≡ A ux uy uz → r ≡ R ux uy uz → q ≡ Q a L n
    → let built : Geom = record { n = N; length = L₀; ux = U L₀; uy = V L₀; uz = W L₀; accel = A (U L₀) (V L₀) (W L₀); rapid = R (U L₀) (V L₀) (W L₀); q = Q (A (U L₀) (V L₀) (W L₀)) L₀ N } in
    let given : Geom = record { n = n; length = L; ux = ux; uy = uy; uz = uz; accel = a; rapid = r; q = q } in built ≡ given
rebuilt N L₀ U V W A R Q n L ux uy uz a r q en eL ex ey ez ea er eq = cc

-- the geometry that is told field by field
pub geometry_is : (mv : Move) (l : Limits) (g : Geom) → IsGeom mv l g → geometry mv l ≡ g
unfolding geometry
geometry_is mv l g is =
    rebuilt (events_of mv) (length_of mv l.per_mm)
    (λ (L : ℕ). unit_of (way mv).x l.per_mm.x L) (λ (L : ℕ). unit_of (way mv).y l.per_mm.y L) (λ (L : ℕ). unit_of (way mv).z l.per_mm.z L)
    (λ (x y z : ℤ). least (axis_caps l.accel x y z)) (λ (x y z : ℤ). least (axis_caps l.rate x y z) / 60) (λ (a L n : ℕ). 2 * a * L / (1000 * n))
    g.n g.length g.ux g.uy g.uz g.accel g.rapid g.q is.n is.length is.ux is.uy is.uz is.accel is.rapid is.q

pub geom_of_is : (mv : Move) (l : Limits) (g : Geom) → IsGeom mv l g → geom_of mv l ≡ Some g
unfolding geom_of
geom_of_is mv l g is = rw (some_geometry (events_of mv) (geometry mv l) is.moves, geometry_is mv l g is) refl

pub geometry_has : (mv : Move) (l : Limits) → 0 < events_of mv → IsGeom mv l (geometry mv l)
unfolding geometry
geometry_has mv l some = record { moves = some; n = refl; length = refl; ux = refl; uy = refl; uz = refl; accel = refl; rapid = refl; q = refl }

moves_of : (n : ℕ) (x g : Geom) → cond (nat_eq n 0) None (Some x) ≡ Some g → (0 < n) × (x ≡ g)
moves_of zero x g e = absurd (cc)
moves_of (suc n) x g e = let some : nat_eq (suc n) 0 ≡ false = grind (arith, nat_tests) in let e' : Some x ≡ Some g = rw some at e in (omega arith, cc)

pub geom_has : (mv : Move) (l : Limits) (g : Geom) → geom_of mv l ≡ Some g → IsGeom mv l g
unfolding geom_of
geom_has mv l g e = let both = moves_of (events_of mv) (geometry mv l) g e in subst (IsGeom mv l) both.1 (geometry_has mv l both.0)

pub no_geom : (mv : Move) (l : Limits) → events_of mv ≡ 0 → None ≡ geom_of mv l
unfolding geom_of
no_geom mv l none = rw none refl

-- how large a number with a sign is
pub unit_size : (d : ℤ) (m : ℕ) → nat_abs (with_sign_of d m) ≡ m
unit_size (pos n) m = refl
unit_size (negsuc n) zero = refl
unit_size (negsuc n) (suc m) = refl

-- an axis's steps are few where its ends are near
axis_few : (a b : ℤ) → nat_abs a ≤ 100000000 → nat_abs b ≤ 100000000 → nat_abs (b -ℤ a) ≤ 200000000
axis_few a b h k = omega (arith, ints)

pub bounded : (mv : Move) (l : Limits) (g : Geom) → IsMove mv → IsLimits l → IsGeom mv l g → IsBounded g
unfolding events_of
bounded mv l g short limits is =
    let a = nat_abs (way mv).x in
    let b = nat_abs (way mv).y in
    let c = nat_abs (way mv).z in
    let x = axis_length a l.per_mm.x in
    let y = axis_length b l.per_mm.y in
    let z = axis_length c l.per_mm.z in
    let xl : 100 * a ≤ x = axis_low a l.per_mm.x limits.per_mm.x.0 limits.per_mm.x.1 in
    let yl : 100 * b ≤ y = axis_low b l.per_mm.y limits.per_mm.y.0 limits.per_mm.y.1 in
    let zl : 100 * c ≤ z = axis_low c l.per_mm.z limits.per_mm.z.0 limits.per_mm.z.1 in
    let xh : x ≤ 1000000 * a = axis_high a l.per_mm.x limits.per_mm.x.0 in
    let yh : y ≤ 1000000 * b = axis_high b l.per_mm.y limits.per_mm.y.0 in
    let zh : z ≤ 1000000 * c = axis_high c l.per_mm.z limits.per_mm.z.0 in
    let n : g.n ≡ max a (max b c) = is.n in
    let some : 1 ≤ g.n = let moves = is.moves in omega arith in
    let few : g.n ≤ 200000000 = omega (arith, axis_few mv.from.x mv.to.x short.from.x short.to.x, axis_few mv.from.y mv.to.y short.from.y short.to.y, axis_few mv.from.z mv.to.z short.from.z short.to.z) in
    let long : 100 * g.n ≤ g.length = omega (arith, is.length, line_x x y z, line_y x y z, line_z x y z) in
    let near : g.length ≤ 2000000 * g.n = omega (arith, is.length, line_le x y z (1000000 * g.n) (omega arith) (omega arith) (omega arith) (omega arith)) in
    let one : 1 ≤ g.length = omega arith in
    let ux : nat_abs g.ux ≡ x * 1000000 / g.length = ap nat_abs is.ux ∙ unit_size (way mv).x _ in
    let uy : nat_abs g.uy ≡ y * 1000000 / g.length = ap nat_abs is.uy ∙ unit_size (way mv).y _ in
    let uz : nat_abs g.uz ≡ z * 1000000 / g.length = ap nat_abs is.uz ∙ unit_size (way mv).z _ in
    let direction : IsDirection g.ux g.uy g.uz = record {
      x = omega (arith, ux, unit_high x g.length one (omega (arith, is.length, line_x x y z)));
      y = omega (arith, uy, unit_high y g.length one (omega (arith, is.length, line_y x y z)));
      z = omega (arith, uz, unit_high z g.length one (omega (arith, is.length, line_z x y z)));
      main = main_of x y z g.length _ _ _ is.length (omega arith) ux uy uz;
    } in
    let accel = least_bounds l.accel g.ux g.uy g.uz limits.accel direction in
    let rate = least_bounds l.rate g.ux g.uy g.uz limits.rate direction in
    let accel_low : 1000 ≤ g.accel = omega (arith, is.accel, accel) in
    let accel_high : g.accel ≤ 2000000000 = omega (arith, is.accel, accel) in
    record {
      n_low = some;
      n_high = few;
      length_low = long;
      length_high = near;
      direction = direction;
      accel_low = accel_low;
      accel_high = accel_high;
      rapid_low = omega (arith, is.rapid, rate);
      rapid_high = omega (arith, is.rapid, rate);
      q_low = omega (arith, is.q, change_low g.accel g.length g.n some accel_low long);
      q_high = omega (arith, is.q, change_high g.accel g.length g.n some accel_high near);
    }
