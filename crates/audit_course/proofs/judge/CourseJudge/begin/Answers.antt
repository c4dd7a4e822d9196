use Rattle.std.proofs.Common.{rules}
use Rattle.audit_course.specs.SoFar.{MayBegin}
use Rattle.audit_course.proofs.Choosing.{tells_alone}
use Rattle.audit_course.proofs.Heard.{hears_alone, hears_line}
use Rattle.audit_course.proofs.judge.CourseJudge.begin.Goals as goal

pub returns-clause-alone : goal.returns-clause-alone
returns-clause-alone c = λ yes kept is.
    let may : MayBegin c.close.new.self = search rules in
    tells_alone c.args.self.now c.close.new.self c.answer_line.new.self c.args.error c.machine_for-machine.result kept may
    c.close.ensures.stays c.close.ensures.work c.close.ensures.unanswered c.close.ensures.cuts (c.machine_for-machine.ensures.alone kept is) (c.answer_line.ensures.tells kept is)

pub returns-clause-work : goal.returns-clause-work
returns-clause-work c = λ yes kept is first sent replies records s. c.answer_line.ensures.work kept is first sent replies records (c.close.ensures.stays first sent replies records s)

pub returns-clause-heard_alone : goal.returns-clause-heard_alone
returns-clause-heard_alone c = λ yes kept is.
    let may : MayBegin c.close.new.self = search rules in
    hears_alone c.args.self.now c.close.new.self c.answer_line.new.self c.args.error c.machine_for-machine.result kept may c.close.ensures.point (c.machine_for-machine.ensures.alone kept is) (c.answer_line.ensures.tells kept is)

pub returns-clause-hears_line : goal.returns-clause-hears_line
returns-clause-hears_line c = λ yes kept is.
    let may : MayBegin c.close.new.self = search rules in
    hears_line c.args.self.now c.close.new.self c.answer_line.new.self c.args.error c.machine_for-machine.result kept may c.close.ensures.point (c.machine_for-machine.ensures.right kept is) (c.machine_for-machine.ensures.alone kept is)
    (c.answer_line.ensures.tells kept is)
