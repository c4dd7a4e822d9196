use Rattle.std.proofs.Common.{ap}
use Rattle.run_rules.specs.Work.Task.{tell}
use Rattle.line_interpreter.specs.Interpreting.{Interpreting}
use Rattle.audit_course.proofs.Heard.{reply_heard}
use Rattle.audit_course.proofs.Passing.{reply_told, halts_on}
use Rattle.audit_course.proofs.Saying.{tells_nothing_of}
use Rattle.audit_course.proofs.judge.CourseJudge.told.Goals as goal

pub returns-clause-adds : goal.returns-clause-adds
returns-clause-adds c = λ r next first sent replies records s.
    reply_told c.args.self.now r c.done.new.self c.args.self.now.line first sent replies records s next c.requires.answered c.done.ensures (tells_nothing_of c.args.self.now.line r)

pub returns-clause-heard : goal.returns-clause-heard
returns-clause-heard c = λ r next. reply_heard c.args.self.now r c.done.new.self c.args.self.now.line next c.requires.answered c.done.ensures (tells_nothing_of c.args.self.now.line r)

pub returns-clause-halting : goal.returns-clause-halting
returns-clause-halting c =
    let r = c.requires.some in
    halts_on c.args.self.now.line c.args.self.now.line (tell r.0) c.args.self.now.work.left c.done.new.self.left r.1 (ap (λ (i : Interpreting). i.left) c.done.ensures) (tells_nothing_of c.args.self.now.line r.0)
