use Rattle.std.proofs.Common.{[], refl, arith}
use Rattle.step_line.proofs.Sums.{at_start}
use Rattle.flight.proofs.flight.Flight.starting_at.Goals as goal

pub returns : goal.returns
returns c = record {
  done = refl;
  finished = [];
  order = refl;
  before = refl;
  from = at_start (record { from = c.args.place; to = c.args.place });
  joined = tt;
  low = omega arith;
  within = refl;
}
