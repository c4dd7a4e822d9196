use Rattle.std.proofs.Common.{ℕ, drop}
use Rattle.outside.specs.Causes.{SinkState}
use Rattle.actor_turns.specs.Worlds.{Seen, Devices, devices, MotionRests}
use Rattle.actor_turns.specs.Lockstep.{IsInOrder, AreEnded, Sifts}
use Rattle.actor_turns.proofs.lockstep.take_turns_of_two.Given as goal

abbrev pub invariant-loop-number : goal.invariant-loop-number
invariant-loop-number g l = record {
  so_far : (seed : ℕ) (before : Devices) (w : Seen g.row.N) (steps : SinkState) → IsInOrder seed l.fn.order.state before (devices (g.J.Source.state l.fn.job) (g.C.Sink.state l.fn.console) steps) w l.fn.world
      → IsInOrder seed l.order.state before (devices (g.J.Source.state l.job) (g.C.Sink.state l.console) steps) w l.world;
  ended : AreEnded l.fn.ended l.fn.world → AreEnded l.ended l.world;
  rests : MotionRests l.world;
  left : Sifts l.order.state (drop l.number-index l.chosen) l.ahead.state;
}
