use Rattle.planner_runs.proofs.Driven.{halted_ticks}
use Rattle.planner_runs.proofs.Legal.{halted_heads_are_legal}
use Rattle.planner_runs.proofs.laws.halted_runs_are_legal.Goals as goal

pub returns-clause-heads : goal.returns-clause-heads
returns-clause-heads c = halted_heads_are_legal

pub returns-clause-ticks : goal.returns-clause-ticks
returns-clause-ticks c = halted_ticks
