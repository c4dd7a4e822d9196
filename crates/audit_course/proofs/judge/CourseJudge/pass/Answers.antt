use Rattle.std.proofs.Common.{ap}
use Rattle.line_interpreter.specs.Interpreting.{Interpreting}
use Rattle.audit_course.proofs.Heard.{quiet_heard}
use Rattle.audit_course.proofs.Passing.{some_next, quiet_done, halts_same, halts_on}
use Rattle.audit_course.proofs.judge.CourseJudge.pass.Goals as goal

pub returns-clause-stays : goal.returns-clause-stays
returns-clause-stays c = λ first sent replies records s.
    let n = some_next c.args.self.now.work.left c.requires.some in
    quiet_done c.args.self.now n.0 c.done.new.self c.counted-self.result first sent replies records s n.1 (c.requires.quiet n.0 n.1) c.done.ensures
    (c.counted-self.ensures c.args.self.now.work.left c.requires.todo n.0 n.1)

pub returns-clause-halts : goal.returns-clause-halts
returns-clause-halts c =
    let n = some_next c.args.self.now.work.left c.requires.some in
    halts_same c.args.self.now.line c.counted-self.result n.0 c.args.self.now.work.left n.1 (c.counted-self.ensures c.args.self.now.work.left c.requires.todo n.0 n.1)

pub returns-clause-heard : goal.returns-clause-heard
returns-clause-heard c =
    let n = some_next c.args.self.now.work.left c.requires.some in
    quiet_heard c.args.self.now n.0 c.done.new.self c.counted-self.result n.1 (c.requires.quiet n.0 n.1) c.done.ensures (c.counted-self.ensures c.args.self.now.work.left c.requires.todo n.0 n.1)

pub returns-clause-halting : goal.returns-clause-halting
returns-clause-halting c =
    let n = some_next c.args.self.now.work.left c.requires.some in
    halts_on c.args.self.now.line c.counted-self.result n.0 c.args.self.now.work.left c.done.new.self.left n.1 (ap (λ (i : Interpreting). i.left) c.done.ensures) (c.counted-self.ensures c.args.self.now.work.left c.requires.todo n.0 n.1)
