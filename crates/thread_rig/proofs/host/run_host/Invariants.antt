use Rattle.thread_rig.specs.HostSides.{HostRunsAt}
use Rattle.thread_rig.proofs.host.run_host.Given as goal

abbrev pub invariant-loop : goal.invariant-loop
invariant-loop g l = HostRunsAt (g.J.Source.state l.fn.job) (g.J.Source.state l.job) (g.C.Sink.state l.fn.console) (g.C.Sink.state l.console) l.fn.side l.side
