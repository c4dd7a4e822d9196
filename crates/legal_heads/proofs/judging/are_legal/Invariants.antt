use Rattle.std.proofs.Common.{◌↔◌, drop, IfSome}
use Rattle.step_line.specs.Asking.{IsPlannedMove}
use Rattle.legal_heads.specs.Speeds.{AreLegal, AreLegalBehind}
use Rattle.legal_heads.proofs.judging.are_legal.Given as goal

abbrev pub invariant-loop-next : goal.invariant-loop-next
invariant-loop-next l = record {
  in_range : IfSome l.before (λ a. IsPlannedMove a.planned);
  rest : AreLegal l.told ↔ AreLegalBehind l.before (drop l.next-index l.told);
}
