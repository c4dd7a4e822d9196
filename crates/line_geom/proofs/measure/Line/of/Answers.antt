use Rattle.std.proofs.Common.{◌≡◌, ◌*◌, ◌/◌, ◌-ℤ◌, ℕ, ℤ, nat_abs, ap, ◌∙◌, to_z, of_z, arith, w32, w64, rules}
use Rattle.std.proofs.lemmas.Int.{to_z-of_z}
use mir.Val.{SFits}
use Rattle.units.specs.Counting.{events_of}
use Rattle.units.specs.Rounding.{with_sign_of}
use Rattle.line_geom.specs.Geometry.{axis_length, unit_of, line_length}
use Rattle.line_geom.proofs.Lines.{line_le, main_of}
use Rattle.line_geom.proofs.measure.Line.of.Goals as goal

same_axis : (n m a p : ℕ) → n ≡ m → a ≡ axis_length n p → a ≡ axis_length m p
same_axis n m a p e is = is ∙ ap (λ k. axis_length k p) e

same_length : (x y z u v w L : ℕ) → L ≡ line_length x y z → x ≡ u → y ≡ v → z ≡ w → L ≡ line_length u v w
same_length x y z u v w L is ex ey ez = cc

unit_is : (r from to : ℤ) (a n p L : ℕ) → SFits w32 r → SFits w64 from → SFits w64 to → n ≡ nat_abs (to -ℤ from) → a ≡ axis_length n p
    → r ≡ with_sign_of (to_z w64 (of_z w64 to) -ℤ to_z w64 (of_z w64 from)) (a * 1000000 / L) → to_z w32 (of_z w32 r) ≡ unit_of (to -ℤ from) p L
unit_is r from to a n p L fits fits_from fits_to count nm is =
    let as_read : r ≡ with_sign_of (to -ℤ from) (a * 1000000 / L) = rw (to_z-of_z w64 from fits_from, to_z-of_z w64 to fits_to) at is in
    to_z-of_z w32 r fits ∙ as_read ∙ ap (λ k. with_sign_of (to -ℤ from) (k * 1000000 / L)) (same_axis n (nat_abs (to -ℤ from)) a p count nm)

pub returns-clause-length : goal.returns-clause-length
returns-clause-length c = same_length _ _ _ _ _ _ _ c.line_nm-length.ensures.nm
    (same_axis _ _ _ c.args.per_mm.now.x c.of-counts.ensures.x c.axis_nm-x.ensures.nm)
    (same_axis _ _ _ c.args.per_mm.now.y c.of-counts.ensures.y c.axis_nm-y.ensures.nm)
    (same_axis _ _ _ c.args.per_mm.now.z c.of-counts.ensures.z c.axis_nm-z.ensures.nm)

pub returns-clause-ux : goal.returns-clause-ux
returns-clause-ux c = unit_is c.unit.result c.args.mv.now.from.x c.args.mv.now.to.x c.axis_nm-x.result c.of-counts.result.x _ _ (search rules) (search rules) (search rules) c.of-counts.ensures.x c.axis_nm-x.ensures.nm c.unit.ensures.unit

pub returns-clause-uy : goal.returns-clause-uy
returns-clause-uy c = unit_is c.unit-2.result c.args.mv.now.from.y c.args.mv.now.to.y c.axis_nm-y.result c.of-counts.result.y _ _ (search rules) (search rules) (search rules) c.of-counts.ensures.y c.axis_nm-y.ensures.nm c.unit-2.ensures.unit

pub returns-clause-uz : goal.returns-clause-uz
returns-clause-uz c = unit_is c.unit-3.result c.args.mv.now.from.z c.args.mv.now.to.z c.axis_nm-z.result c.of-counts.result.z _ _ (search rules) (search rules) (search rules) c.of-counts.ensures.z c.axis_nm-z.ensures.nm c.unit-3.ensures.unit

pub returns-clause-low : goal.returns-clause-low
unfolding events_of
returns-clause-low c = omega arith

pub returns-clause-high : goal.returns-clause-high
unfolding events_of
returns-clause-high c =
    let moves = c.requires.moves in
    let le = line_le c.axis_nm-x.result c.axis_nm-y.result c.axis_nm-z.result (1000000 * events_of c.args.mv.now) (omega arith) (omega arith) (omega arith) (omega arith) in
    omega (arith, le)

pub returns-clause-direction : goal.returns-clause-direction
unfolding events_of
returns-clause-direction c =
    let moves = c.requires.moves in
    let main = main_of c.axis_nm-x.result c.axis_nm-y.result c.axis_nm-z.result c.line_nm-length.result _ _ _ c.line_nm-length.ensures.nm (omega arith) c.unit.ensures.part c.unit-2.ensures.part c.unit-3.ensures.part in
    let x : SFits w32 c.unit.result = search rules in
    let y : SFits w32 c.unit-2.result = search rules in
    let z : SFits w32 c.unit-3.result = search rules in
    simp to_z-of_z (record { x = c.unit.ensures.small; y = c.unit-2.ensures.small; z = c.unit-3.ensures.small; main = main })
