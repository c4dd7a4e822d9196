-- The ticks of a piece.
use Rattle.std.proofs.Common.{◌≡◌, ℕ, zero, suc, ◌+◌, ◌<◌, List, [], ◌∷◌, ◌++◌, length, map, refl, arith}
use Rattle.units.specs.declared.Move.{Move}
use Rattle.step_line.specs.declared.Piece.{Piece}
use Rattle.step_line.specs.declared.Piece.TheVariants.{Segment, Mark, End}
use Rattle.step_line.specs.declared.Record.{Record}
use Rattle.step_line.specs.declared.Record.TheVariants as kinds
use Rattle.step_line.specs.declared.Bits.{Bits}
use Rattle.step_line.specs.Counting.{events_of}
use Rattle.step_line.specs.Events.{event_of, events_after, IsEvent}
use Rattle.step_line.proofs.Order.{is_event}
use Rattle.step_line.specs.Pieces.{ticks_of, records_of}
use Rattle.pulse_engine.specs.Logs.{ticks_in}

-- an event that is made within its move
pub is_made : (m : Move) (k : ℕ) (b : Bits) → b ≡ event_of m (k + 1) → k < events_of m → IsEvent b
is_made m k b e h = rw e (is_event m k h)

-- n events are n ticks
pub length_events : (m : Move) (k n : ℕ) → n ≡ length (map kinds.Event (events_after m k n))
length_events m k zero = refl
length_events m k (suc n) = omega (arith, length_events m (k + 1) n)

pub ticks_in_events : (m : Move) (k n : ℕ) → ticks_in (map kinds.Event (events_after m k n)) ≡ n
ticks_in_events m k zero = refl
ticks_in_events m k (suc n) = omega (arith, ticks_in_events m (k + 1) n)

-- the records of a piece have its ticks
pub ticks_in_piece : (p : Piece) → ticks_in (records_of p) ≡ length (ticks_of p)
ticks_in_piece (Segment s) = omega (arith, ticks_in_events s.mv s.first s.n, length_events s.mv s.first s.n)
ticks_in_piece (Mark m) = refl
ticks_in_piece End = refl

pub ticks-append : (rs ss : List Record) → ticks_in (rs ++ ss) ≡ ticks_in rs + ticks_in ss
ticks-append [] ss = omega arith
ticks-append (r ∷ rs) ss = omega (arith, ticks-append rs ss)
