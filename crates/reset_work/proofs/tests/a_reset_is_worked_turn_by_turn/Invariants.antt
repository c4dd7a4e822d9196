use Rattle.reset_work.specs.Tapes.{IsWorkedOn}
use Rattle.reset_work.proofs.tests.a_reset_is_worked_turn_by_turn.Given as goal

abbrev pub invariant-loop-turn : goal.invariant-loop-turn
invariant-loop-turn g l = IsWorkedOn l.tape.left l.tape.ticks l.tape.done l.work
