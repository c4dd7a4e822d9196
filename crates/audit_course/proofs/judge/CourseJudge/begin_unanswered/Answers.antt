use Rattle.audit_course.proofs.judge.CourseJudge.begin_unanswered.Goals as goal

pub returns-clause-work : goal.returns-clause-work
returns-clause-work c = λ yes kept is first sent replies records s. c.break_line.ensures.work kept is first sent replies records (c.close.ensures.stays first sent replies records s)
