use Rattle.std.proofs.Common.{ℕ}
use Rattle.actor_turns.specs.Worlds.{Seen, Devices, devices}
use Rattle.actor_turns.specs.Lockstep.{IsInOrder, AreEnded}
use Rattle.actor_turns.proofs.lockstep.take_turns.Given as goal

abbrev pub invariant-loop : goal.invariant-loop
invariant-loop g l =
    ((seed : ℕ) (before : Devices) (w : Seen g.row.N) → IsInOrder seed l.fn.order.state before (devices (g.J.Source.state l.fn.job) (g.C.Sink.state l.fn.console) (g.S.Sink.state l.fn.steps)) w l.fn.world
    → IsInOrder seed l.order.state before (devices (g.J.Source.state l.job) (g.C.Sink.state l.console) (g.S.Sink.state l.steps)) w l.world)
    × (AreEnded l.fn.ended l.fn.world → AreEnded l.ended l.world)
