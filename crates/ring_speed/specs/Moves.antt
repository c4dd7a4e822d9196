-- The segment that is sent.
use Rattle.std.specs.Prelude.{pos}
use Rattle.step_line.specs.declared.Segment.{Segment}

abbrev pub twenty_events : Segment
twenty_events = record {
  line = 1;
  mv = record { from = record { x = pos 0; y = pos 0; z = pos 0 }; to = record { x = pos 20; y = pos 0; z = pos 0 } };
  first = 0;
  n = 20;
  w_in = 0;
  w_out = 0;
  cycles = 500;
}
