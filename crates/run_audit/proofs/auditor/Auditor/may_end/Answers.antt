use Rattle.run_audit.proofs.auditor.Auditor.may_end.Goals as goal

pub returns-in-Some-End-clause-no : goal.returns-in-Some-End-clause-no
returns-in-Some-End-clause-no c = λ none is. c.ends_course.ensures.no none
