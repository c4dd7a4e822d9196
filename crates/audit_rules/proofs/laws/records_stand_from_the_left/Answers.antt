use Rattle.audit_rules.proofs.Places.{one_place}
use Rattle.audit_rules.proofs.Stands.{stand_before}
use Rattle.audit_rules.proofs.laws.records_stand_from_the_left.Goals as goal

pub returns-clause-before : goal.returns-clause-before
returns-clause-before c = stand_before

pub returns-clause-place : goal.returns-clause-place
returns-clause-place c sent console steps x y = let s = one_place sent console steps x y in (s.done, s.rest)
