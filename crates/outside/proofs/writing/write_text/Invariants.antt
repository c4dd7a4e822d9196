use Rattle.std.proofs.Common.{false, length}
use Rattle.outside.specs.Writing.{Wrote}
use Rattle.outside.proofs.writing.write_text.Given as goal

abbrev pub invariant-loop-rest : goal.invariant-loop-rest
invariant-loop-rest g l = Wrote (g.S.Sink.state l.fn.sink) (g.S.Sink.state l.sink) false l.rest l.fn.text

abbrev pub decreases-loop-rest : goal.decreases-loop-rest
decreases-loop-rest g l = length l.rest
