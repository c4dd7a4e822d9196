use Rattle.std.proofs.Common.{[], rules}
use Rattle.motion_ring.specs.Ends.{ring_of_in}
use Rattle.motion_ports.proofs.Fresh.{nothing_got}
use Rattle.motion_ports.proofs.tests.Line.new.Goals as goal

pub invariant_of-result : goal.invariant_of-result
invariant_of-result c = let q = c.requires.idle in record {
  got = [];
  put = [];
  ring = ring_of_in c.args.end;
  start = c.args.records.end;
  pieces_are = nothing_got c.args.end q.0 q.1 q.2 q.3;
  records_are = (search rules, c.requires.fresh, tt);
  fits = c.new.ensures;
}
