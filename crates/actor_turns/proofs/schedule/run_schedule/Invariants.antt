use Rattle.std.proofs.Common.{take}
use Rattle.actor_turns.specs.Worlds.{RunsOn, devices}
use Rattle.actor_turns.proofs.schedule.run_schedule.Given as goal

abbrev pub invariant-loop-actor : goal.invariant-loop-actor
invariant-loop-actor g l =
    RunsOn (take l.actor-index l.schedule) (devices (g.J.Source.state l.fn.job) (g.C.Sink.state l.fn.console) (g.S.Sink.state l.fn.steps)) (devices (g.J.Source.state l.job) (g.C.Sink.state l.console) (g.S.Sink.state l.steps)) l.fn.world l.world
