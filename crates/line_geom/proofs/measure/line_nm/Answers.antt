use Rattle.std.proofs.Common.{◌≡◌, ◌+◌, ◌*◌, ap, arith}
use Rattle.units.specs.Roots.{root_of}
use Rattle.line_geom.specs.Geometry.{line_length}
use Rattle.units.proofs.Places.{one_root}
use Rattle.line_geom.proofs.Lines.{line_some, line_x, line_y, line_z}
use Rattle.line_geom.proofs.measure.line_nm.Goals as goal

pub returns : goal.returns
unfolding line_length
returns c =
    let root = one_root _ c.isqrt.result c.isqrt.ensures in
    let sum : c.square.result + c.square-2.result + c.square-3.result ≡ c.args.x * c.args.x + c.args.y * c.args.y + c.args.z * c.args.z = omega arith in
    let same = ap root_of sum in
    let nm : c.max.result ≡ line_length c.args.x c.args.y c.args.z = omega (arith, root, same) in
    record {
      nm = nm;
      some = omega (arith, nm, line_some c.args.x c.args.y c.args.z);
      x = omega (arith, nm, line_x c.args.x c.args.y c.args.z);
      y = omega (arith, nm, line_y c.args.x c.args.y c.args.z);
      z = omega (arith, nm, line_z c.args.x c.args.y c.args.z);
    }
