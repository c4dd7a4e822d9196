-- The pieces of the tests come in turn.
use Rattle.std.proofs.Common.{[], ◌∷◌, pos, refl, rules, lit≤, lit<}
use Rattle.step_line.specs.declared.Segment.{Segment}
use Rattle.step_line.specs.declared.Piece.TheVariants as pieces
use Rattle.step_line.specs.Counting.{events_of}
use Rattle.step_line.specs.Pieces.{IsTraceable}
use Rattle.step_line.specs.Ordering.{InTurn}

abbrev pub slanting : Segment
slanting = record {
  line = 7;
  mv = record { from = record { x = pos 0; y = pos 0; z = pos 0 }; to = record { x = pos 2; y = pos 1; z = pos 0 } };
  first = 0;
  n = 2;
  w_in = 40000;
  w_out = 90000;
  cycles = 2000;
}

whole_move : IsTraceable slanting
unfolding events_of
whole_move = record { mv = search rules; head = record { line = (lit≤ tt, lit< tt); n = (lit≤ tt, lit< tt); w = lit< tt; cycles = lit< tt }; within = lit≤ tt }

pub one_in_turn : InTurn (pieces.Segment slanting ∷ [])
one_in_turn = (record { going = refl; follows = (whole_move, refl) }, tt)
