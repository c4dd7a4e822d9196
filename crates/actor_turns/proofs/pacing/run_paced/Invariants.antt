use Rattle.actor_turns.specs.Worlds.{devices}
use Rattle.actor_turns.specs.Lockstep.{AreEnded}
use Rattle.actor_turns.specs.Pacing.{IsPaced}
use Rattle.actor_turns.proofs.pacing.run_paced.Given as goal

abbrev pub invariant-loop : goal.invariant-loop
invariant-loop g l =
    IsPaced l.pace (devices (g.J.Source.state l.fn.job) (g.C.Sink.state l.fn.console) (g.S.Sink.state l.fn.steps)) (devices (g.J.Source.state l.job) (g.C.Sink.state l.console) (g.S.Sink.state l.steps)) l.fn.world l.world
    × AreEnded l.ended l.world
