use Rattle.std.proofs.Common.{◌≤◌, ◌*◌, ◌/◌, ap, nat_abs, ◌∙◌, arith, rules}
use Rattle.line_geom.proofs.Lines.{unit_high}
use Rattle.line_geom.proofs.Signs.{on, back, way_on, way_back, size_back}
use Rattle.line_geom.proofs.measure.unit.Goals as goal

small : (c : goal.Start) → c.args.axis * 1000000 / c.args.length ≤ 1000000
small c = unit_high c.args.axis c.args.length c.requires.some c.requires.part

pub overflow_cast-part-3 : goal.overflow_cast-part-3
overflow_cast-part-3 c = search (rules, small c)

pub overflow_sub-result : goal.overflow_sub-result
overflow_sub-result c =
    let part = c.args.axis * 1000000 / c.args.length in
    let le = unit_high c.args.axis c.args.length c.requires.some c.requires.part in
    rw (on part le) (search (rules, le))

pub returns-then-to-from : goal.returns-then-to-from
returns-then-to-from c =
    let part = c.args.axis * 1000000 / c.args.length in
    let le = unit_high c.args.axis c.args.length c.requires.some c.requires.part in
    let size = ap nat_abs (back part le) ∙ size_back part in
    record {
      unit = back part le ∙ way_back c.args.from c.args.to part (search rules);
      part = size;
      small = omega (arith, size, le);
    }

pub returns-else-to-from : goal.returns-else-to-from
returns-else-to-from c =
    let part = c.args.axis * 1000000 / c.args.length in
    let le = unit_high c.args.axis c.args.length c.requires.some c.requires.part in
    let size = ap nat_abs (on part le) in
    record {
      unit = on part le ∙ way_on c.args.from c.args.to part (search rules);
      part = size;
      small = omega (arith, size, le);
    }
