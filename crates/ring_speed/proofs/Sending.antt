-- Pieces of 20 ticks, one behind another.
use Rattle.std.proofs.Common.{◌≡◌, ℕ, ◌*◌, ◌^◌, ◌<◌, List, [], ◌∷◌, length, false, refl, ◌∙◌, inl, rules, lit≤, lit<, arith}
use Rattle.step_line.specs.declared.Piece.{Piece}
use Rattle.step_line.specs.declared.Piece.TheVariants as pieces
use Rattle.step_line.specs.Counting.{events_of}
use Rattle.step_line.specs.Pieces.{IsTraceable, JoinsOn}
use Rattle.step_line.specs.Ordering.{has_ended}
use Rattle.step_line.specs.Finishing.{tick_count}
use Rattle.motion_ring.specs.declared.lists.Sent.{Sent}
use Rattle.motion_ring.specs.Sides.{MayPublish, published_in, ticks_published}
use Rattle.motion_ring.proofs.Ticks.{segment_ticks}
use Rattle.ring_speed.specs.Moves.{twenty_events}

is_traceable : IsTraceable twenty_events
unfolding events_of
is_traceable = record { mv = search rules; head = record { line = (lit≤ tt, lit< tt); n = (lit≤ tt, lit< tt); w = lit< tt; cycles = lit< tt }; within = lit≤ tt }

joins_on : (before : List Piece) → JoinsOn before twenty_events
joins_on [] = refl
joins_on (pieces.Segment s ∷ before) = inl refl
joins_on (pieces.Mark m ∷ before) = refl
joins_on (pieces.End ∷ before) = refl

pub twenty_ticks : tick_count (pieces.Segment twenty_events) ≡ 20
twenty_ticks = segment_ticks twenty_events

-- so many of them were published, and no stop waits
pub record HasSent (s : Sent) (n : ℕ) : Type 0 where
  pub running : s.waits ≡ false
  pub going : has_ended (published_in s) ≡ false
  pub ticks : ticks_published s ≡ 20 * n
  pub pieces : length (published_in s) ≡ n

pub may_publish : (s : Sent) (n : ℕ) → HasSent s n → n < 2 ^ 32 → MayPublish s (pieces.Segment twenty_events)
may_publish s n has few =
    let ticks = has.ticks in
    let count = has.pieces in
    record { running = has.running; going = has.going; follows = (is_traceable, joins_on s.since); few = (let t = twenty_ticks in omega (arith, t, ticks, few)); room = omega (arith, count, few) }
