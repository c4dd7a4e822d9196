use Rattle.thread_rig.specs.MotionSides.{PulseRunsAt}
use Rattle.thread_rig.proofs.motion.run_pulse.Given as goal

abbrev pub invariant-loop : goal.invariant-loop
invariant-loop g l = PulseRunsAt l.fn.side l.side
