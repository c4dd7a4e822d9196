use Rattle.audit_course.proofs.Beginning.{locked_still, stands_still}
use Rattle.audit_course.proofs.judge.CourseJudge.still_machine.Goals as goal

pub returns-then-self : goal.returns-then-self
returns-then-self c = λ kept. locked_still c.args.self.now kept c.if-self.true

pub returns-else-self : goal.returns-else-self
returns-else-self c = λ kept. stands_still c.args.self.now kept c.if-self.false
