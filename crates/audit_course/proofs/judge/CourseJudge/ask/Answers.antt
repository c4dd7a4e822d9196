use Rattle.std.proofs.Common.{true, ap}
use Rattle.line_interpreter.specs.Interpreting.{Interpreting}
use Rattle.audit_course.proofs.Heard.{item_heard}
use Rattle.audit_course.proofs.Passing.{some_next, item_asked, task_lost, halts_same, halts_on}
use Rattle.audit_course.proofs.judge.CourseJudge.ask.Goals as goal

pub returns-then-self-clause-stays : goal.returns-then-self-clause-stays
returns-then-self-clause-stays c = λ first sent replies records s.
    let n = some_next c.args.self.now.work.left c.requires.some in
    task_lost c.args.self.now n.0 c.args.item c.done.new.self c.counted-self.result first sent replies records s n.1 c.requires.item (c.requires.of n.0 n.1) c.done.ensures
    (c.counted-self.ensures c.args.self.now.work.left c.requires.todo n.0 n.1)

pub returns-clause-stays : goal.returns-clause-stays
returns-clause-stays c = λ first sent replies records s.
    let n = some_next c.args.self.now.work.left c.requires.some in
    item_asked c.args.self.now n.0 c.args.item c.done.new.self c.counted-self.result c.ask.new.self first sent replies records s n.1 (c.requires.of n.0 n.1) c.requires.item c.if-self.false
    (c.owes.ensures.idle c.if-owes.false) (c.owes.ensures.none c.if-owes.false) c.ask.ensures c.done.ensures
    (c.counted-self.ensures c.args.self.now.work.left c.requires.todo n.0 n.1)

pub returns-then-self-clause-halts : goal.returns-then-self-clause-halts
returns-then-self-clause-halts c =
    let n = some_next c.args.self.now.work.left c.requires.some in
    halts_same c.args.self.now.line c.counted-self.result n.0 c.args.self.now.work.left n.1 (c.counted-self.ensures c.args.self.now.work.left c.requires.todo n.0 n.1)

pub returns-clause-halts : goal.returns-clause-halts
returns-clause-halts c =
    let n = some_next c.args.self.now.work.left c.requires.some in
    halts_same c.args.self.now.line c.counted-self.result n.0 c.args.self.now.work.left n.1 (c.counted-self.ensures c.args.self.now.work.left c.requires.todo n.0 n.1)

pub returns-then-self-clause-heard : goal.returns-then-self-clause-heard
returns-then-self-clause-heard c =
    let n = some_next c.args.self.now.work.left c.requires.some in
    item_heard c.args.self.now n.0 c.args.item c.done.new.self c.counted-self.result c.args.self.now.part true n.1 c.requires.item (c.requires.of n.0 n.1) c.done.ensures (c.counted-self.ensures c.args.self.now.work.left c.requires.todo n.0 n.1)

pub returns-clause-heard : goal.returns-clause-heard
returns-clause-heard c =
    let n = some_next c.args.self.now.work.left c.requires.some in
    item_heard c.args.self.now n.0 c.args.item c.done.new.self c.counted-self.result c.ask.new.self c.args.self.now.lost n.1 c.requires.item (c.requires.of n.0 n.1) c.done.ensures (c.counted-self.ensures c.args.self.now.work.left c.requires.todo n.0 n.1)

pub returns-then-self-clause-halting : goal.returns-then-self-clause-halting
returns-then-self-clause-halting c =
    let n = some_next c.args.self.now.work.left c.requires.some in
    halts_on c.args.self.now.line c.counted-self.result n.0 c.args.self.now.work.left c.done.new.self.left n.1 (ap (λ (i : Interpreting). i.left) c.done.ensures) (c.counted-self.ensures c.args.self.now.work.left c.requires.todo n.0 n.1)

pub returns-clause-halting : goal.returns-clause-halting
returns-clause-halting c =
    let n = some_next c.args.self.now.work.left c.requires.some in
    halts_on c.args.self.now.line c.counted-self.result n.0 c.args.self.now.work.left c.done.new.self.left n.1 (ap (λ (i : Interpreting). i.left) c.done.ensures) (c.counted-self.ensures c.args.self.now.work.left c.requires.todo n.0 n.1)
