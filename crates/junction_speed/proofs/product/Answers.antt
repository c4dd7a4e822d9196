use Rattle.std.proofs.Common.{◌≡◌, ◌*ℤ◌, to_z, of_z, w32}
use Rattle.std.proofs.lemmas.Int.{to_z-of_z}
use mir.Syntax.{w128}
use Rattle.junction_speed.proofs.Products.{read, product_small, product_fits}
use Rattle.junction_speed.proofs.product.Goals as goal

pub overflow_mul-result : goal.overflow_mul-result
overflow_mul-result c =
    rw (read c.args.prev c.ranges.prev, read c.args.next c.ranges.next) (product_fits c.args.prev c.args.next c.ranges.prev c.ranges.next)

value : (c : goal.Start) → to_z w128 (of_z w128 (to_z w128 (of_z w128 (to_z w32 (of_z w32 c.args.prev))) *ℤ to_z w128 (of_z w128 (to_z w32 (of_z w32 c.args.next))))) ≡ c.args.prev *ℤ c.args.next
value c =
    rw (read c.args.prev c.ranges.prev, read c.args.next c.ranges.next)
    (to_z-of_z w128 (c.args.prev *ℤ c.args.next) (product_fits c.args.prev c.args.next c.ranges.prev c.ranges.next))

pub returns : goal.returns
returns c = record {
  value = value c;
  small = rw (value c) (product_small c.args.prev c.args.next c.ranges.prev c.ranges.next);
}
