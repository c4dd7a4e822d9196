use Rattle.actor_turns.specs.Worlds.{Seen, Devices, devices}
use Rattle.actor_turns.specs.Lockstep.{AreEnded}
use Rattle.actor_turns.specs.Pacing.{IsPaced}
use Rattle.actor_turns.proofs.pacing.take_paced_turns.Given as goal

abbrev pub invariant-loop : goal.invariant-loop
invariant-loop g l =
    ((before : Devices) (w : Seen g.row.N) → IsPaced l.fn.pace before (devices (g.J.Source.state l.fn.job) (g.C.Sink.state l.fn.console) (g.S.Sink.state l.fn.steps)) w l.fn.world
    → IsPaced l.pace before (devices (g.J.Source.state l.job) (g.C.Sink.state l.console) (g.S.Sink.state l.steps)) w l.world)
    × (AreEnded l.fn.ended l.fn.world → AreEnded l.ended l.world)
