use Rattle.modal_state.specs.Modes.{IsParser}
use Rattle.answer_rows.proofs.verdicts.run.Given as goal

-- the state is one that a parser can be in
abbrev pub invariant-loop-line : goal.invariant-loop-line
invariant-loop-line l = IsParser l.parser
