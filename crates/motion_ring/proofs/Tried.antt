-- The segment of the tests.
use Rattle.std.proofs.Common.{pos, refl, rules, lit≤, lit<, ◌≡◌, ◌≤◌, false, inl, List, [], ◌∷◌, length, arith}
use Rattle.step_line.specs.declared.Piece.{Piece}
use Rattle.step_line.specs.declared.Segment.{Segment}
use Rattle.step_line.specs.declared.Piece.TheVariants as pieces
use Rattle.step_line.specs.Counting.{events_of}
use Rattle.step_line.specs.Ordering.{has_ended}
use Rattle.step_line.specs.Pieces.{IsTraceable, JoinsOn}
use Rattle.step_line.specs.Finishing.{tick_count}
use Rattle.motion_ring.specs.declared.lists.Sent.{Sent}
use Rattle.motion_ring.specs.Sides.{MayPublish, published_in, ticks_published}
use Rattle.motion_ring.specs.Rule.{none_sent}
use Rattle.motion_ring.proofs.Ticks.{segment_ticks}

abbrev pub three_events : Segment
three_events = record {
  line = 7;
  mv = record { from = record { x = pos 0; y = pos 0; z = pos 0 }; to = record { x = pos 3; y = pos 2; z = pos 0 } };
  first = 0;
  n = 3;
  w_in = 40000;
  w_out = 90000;
  cycles = 500;
}

three_of_three : IsTraceable three_events
unfolding events_of
three_of_three = record { mv = search rules; head = record { line = (lit≤ tt, lit< tt); n = (lit≤ tt, lit< tt); w = lit< tt; cycles = lit< tt }; within = lit≤ tt }

pub three_ticks : tick_count (pieces.Segment three_events) ≡ 3
three_ticks = segment_ticks three_events

pub may_begin : MayPublish none_sent (pieces.Segment three_events)
may_begin = record { running = refl; going = refl; follows = (three_of_three, refl); few = (let t = three_ticks in omega arith); room = omega arith }

-- it begins its move, so it may come again
joins : (h : List Piece) → JoinsOn h three_events
joins [] = refl
joins (pieces.Segment s ∷ h) = inl refl
joins (pieces.Mark m ∷ h) = refl
joins (pieces.End ∷ h) = refl

pub may_go_on : (s : Sent) → s.waits ≡ false → has_ended (published_in s) ≡ false → ticks_published s ≤ 3000000 → length (published_in s) ≤ 1000000
    → MayPublish s (pieces.Segment three_events)
may_go_on s running going ticks count =
    record { running = running; going = going; follows = (three_of_three, joins s.since); few = (let t = three_ticks in omega (arith, t, ticks)); room = omega (arith, count) }
