use Rattle.std.proofs.Common.{◌≡◌, ◌-◌, length}
use Rattle.run_rules.specs.declared.State.{State}
use Rattle.line_interpreter.specs.Desks.{settles_of}
use Rattle.line_interpreter.specs.Lefts.{IsSound, work_left}
use Rattle.line_interpreter.proofs.tasks.Line.settle.Given as goal

abbrev pub invariant-loop-self : goal.invariant-loop-self
invariant-loop-self l = IsSound l.self × ((s : State) → work_left l.self s ≡ work_left l.fn.self s) × (settles_of l.self ≡ settles_of l.fn.self)

abbrev pub decreases-loop-self : goal.decreases-loop-self
decreases-loop-self l = length l.self.items.items - l.self.place
