use Rattle.std.proofs.Common.{true, false, refl, ap}
use Rattle.line_interpreter.specs.Interpreting.{Interpreting}
use Rattle.audit_course.proofs.Heard.{broken_heard}
use Rattle.audit_course.proofs.Beginning.{line_unanswered, broken_work, short_found}
use Rattle.audit_course.proofs.judge.CourseJudge.break_line.Goals as goal

pub returns-clause-adds : goal.returns-clause-adds
returns-clause-adds c = λ kept is first sent replies records s.
    line_unanswered c.args.self.now c.args.machine c.judge.new.self c.begin-self.result c.judge.result kept first sent replies records s c.requires.may
    (λ since. c.judge.ensures.becomes since kept is) (c.requires.found kept is) c.begin-self.ensures.is_new c.begin-self.ensures.accepted c.begin-self.ensures.settles

pub returns-clause-work : goal.returns-clause-work
returns-clause-work c = λ kept is.
    broken_work c.args.self.now (record c.args.self.now { work = c.judge.new.self; has_line = true; unanswered = true; touched = false; in_hand = true; line = c.begin-self.result }) c.args.machine c.judge.new.self c.judge.result kept c.requires.may
    (λ since. c.judge.ensures.becomes since kept is) (c.requires.found kept is) refl

pub returns-clause-heard : goal.returns-clause-heard
returns-clause-heard c = λ kept is.
    broken_heard c.args.self.now c.args.machine c.judge.new.self c.begin-self.result c.judge.result kept c.requires.may
    (λ since. c.judge.ensures.becomes since kept is) (c.requires.found kept is) c.begin-self.ensures.is_new c.begin-self.ensures.accepted c.begin-self.ensures.settles

pub returns-clause-short : goal.returns-clause-short
returns-clause-short c = λ kept is.
    short_found c.args.self.now false c.args.machine c.judge.new.self kept
    (λ since. let o = c.judge.ensures.becomes since kept is in (o.0, o.1, ap (λ (i : Interpreting). i.left) o.2)) (c.requires.found kept is)
