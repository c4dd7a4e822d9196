use Rattle.std.proofs.Common.{drop, ap, ◌∙◌, sym, subst}
use Rattle.line_interpreter.specs.Interpreting.{Interpreting}
use Rattle.run_rules.specs.States.{IsOpening}
use Rattle.audit_course.proofs.Opening.{opened_so_far}
use Rattle.audit_course.proofs.judge.CourseJudge.new.Goals as goal

pub returns-clause-opens : goal.returns-clause-opens
returns-clause-opens c =
    opened_so_far c.done.new.self c.opening.result c.new.result c.begin.result
    (subst IsOpening (sym (ap (λ (i : Interpreting). i.state) c.done.ensures)) c.new-work.ensures.opening) c.opening.ensures
    (ap (λ (i : Interpreting). i.number) c.done.ensures ∙ c.new-work.ensures.number)
    (ap (λ (i : Interpreting). i.left) c.done.ensures ∙ ap (drop 1) c.new-work.ensures.left)
    c.new.ensures c.begin.ensures.is_new c.begin.ensures.settles c.begin.ensures.accepted
