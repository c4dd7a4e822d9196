use Rattle.thread_rig.specs.MotionSides.{RecorderRunsAt}
use Rattle.thread_rig.proofs.motion.run_recorder.Given as goal

abbrev pub invariant-loop : goal.invariant-loop
invariant-loop g l = RecorderRunsAt (g.S.Sink.state l.fn.steps) (g.S.Sink.state l.steps) l.fn.side l.side
