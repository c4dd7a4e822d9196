use Rattle.std.proofs.Common.{ap, ◌∙◌}
use Rattle.line_interpreter.specs.Interpreting.{Interpreting}
use Rattle.audit_course.proofs.Ending.{course_over}
use Rattle.audit_course.proofs.Refused.{never_over}
use Rattle.audit_course.proofs.judge.CourseJudge.end.Goals as goal

pub returns-clause-yes : goal.returns-clause-yes
returns-clause-yes c = λ yes first sent replies records s. course_over c.close.new.self first sent replies records (c.close.ensures.stays first sent replies records s) (c.may_end.ensures.yes yes)

pub returns-clause-no : goal.returns-clause-no
returns-clause-no c = λ no done answered.
    let same = c.close.ensures in
    never_over c.args.self.now c.close.new.self same.stays same.work same.cuts (record { done = ap (λ (i : Interpreting). i.left) same.work ∙ done; closed = same.closed }) (same.unanswered ∙ answered) (c.may_end.ensures.no no)
