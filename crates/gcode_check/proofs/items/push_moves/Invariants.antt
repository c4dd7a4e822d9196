use Rattle.std.proofs.Common.{◌≡◌, ◌+◌, ◌++◌, drop, length}
use Rattle.std.specs.List.{All}
use Rattle.units.specs.Lengths.{IsPlace}
use Rattle.gcode_check.specs.Items.{IsItem, moves_through}
use Rattle.gcode_check.proofs.items.push_moves.Given as goal

-- the items so far and the moves through the rest of the places
abbrev pub invariant-loop-stop : goal.invariant-loop-stop
invariant-loop-stop l = record {
  same : l.items.items ++ moves_through l.from (drop l.stop-index l.stops) l.rate ≡ l.initial.items.items ++ moves_through l.fn.at l.stops l.rate;
  count : length l.items.items ≡ length l.initial.items.items + l.stop-index;
  near : IsPlace l.from;
  sound : All IsItem l.items.items;
}
