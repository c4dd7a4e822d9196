use Rattle.legal_heads.proofs.Refused.{first_at_rest, first_of_first, none_without_moves}
use Rattle.legal_heads.proofs.laws.wrong_heads_are_refused.Goals as goal

pub returns-clause-at_rest : goal.returns-clause-at_rest
returns-clause-at_rest c = first_at_rest

pub returns-clause-first : goal.returns-clause-first
returns-clause-first c = first_of_first

pub returns-clause-moves : goal.returns-clause-moves
returns-clause-moves c = none_without_moves
