use Rattle.std.proofs.Common.{◌≡◌, arith, nat_abs, rules, w32}
use Rattle.std.proofs.lemmas.Int.{to_z-of_z}
use mir.Val.{SFits}
use Rattle.line_geom.specs.Geometry.{IsShare, axis_cap}
use Rattle.line_geom.proofs.Lines.{least_here, least_high}
use Rattle.line_geom.proofs.measure.Line.least.Goals as goal

pub returns-clause-least : goal.returns-clause-least
returns-clause-least c =
    let fits_x : SFits w32 c.args.self.now.ux = search rules in
    let fits_y : SFits w32 c.args.self.now.uy = search rules in
    let fits_z : SFits w32 c.args.self.now.uz = search rules in
    let x : c.unsigned_abs.result ≡ nat_abs c.args.self.now.ux = simp to_z-of_z at c.unsigned_abs.ensures.value in
    let y : c.unsigned_abs-2.result ≡ nat_abs c.args.self.now.uy = simp to_z-of_z at c.unsigned_abs-2.ensures.value in
    let z : c.unsigned_abs-3.result ≡ nat_abs c.args.self.now.uz = simp to_z-of_z at c.unsigned_abs-3.ensures.value in
    let le = least_high c.along-x.result c.along-y.result c.along-z.result _ _ _ (rw x at c.along-x.ensures.high) (rw y at c.along-y.ensures.high) (rw z at c.along-z.ensures.high) c.requires.direction.main in
    let share_x : IsShare c.along-x.result (axis_cap c.args.cap.now.x (nat_abs c.args.self.now.ux)) = rw x at c.along-x.ensures.share in
    let share_y : IsShare c.along-y.result (axis_cap c.args.cap.now.y (nat_abs c.args.self.now.uy)) = rw y at c.along-y.ensures.share in
    let share_z : IsShare c.along-z.result (axis_cap c.args.cap.now.z (nat_abs c.args.self.now.uz)) = rw z at c.along-z.ensures.share in
    least_here c.along-x.result c.along-y.result c.along-z.result _ _ _ _ share_x share_y share_z le (omega arith)

pub returns-clause-low : goal.returns-clause-low
returns-clause-low c = omega arith

pub returns-clause-high : goal.returns-clause-high
returns-clause-high c =
    let fits_x : SFits w32 c.args.self.now.ux = search rules in
    let fits_y : SFits w32 c.args.self.now.uy = search rules in
    let fits_z : SFits w32 c.args.self.now.uz = search rules in
    let x : c.unsigned_abs.result ≡ nat_abs c.args.self.now.ux = simp to_z-of_z at c.unsigned_abs.ensures.value in
    let y : c.unsigned_abs-2.result ≡ nat_abs c.args.self.now.uy = simp to_z-of_z at c.unsigned_abs-2.ensures.value in
    let z : c.unsigned_abs-3.result ≡ nat_abs c.args.self.now.uz = simp to_z-of_z at c.unsigned_abs-3.ensures.value in
    let le = least_high c.along-x.result c.along-y.result c.along-z.result _ _ _ (rw x at c.along-x.ensures.high) (rw y at c.along-y.ensures.high) (rw z at c.along-z.ensures.high) c.requires.direction.main in
    omega (arith, le)
