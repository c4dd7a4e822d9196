use Rattle.std.proofs.Common.{◌≡◌, subst}
use Rattle.step_line.specs.Asking.Asked.{a_move, a_mark}
use Rattle.run_rules.specs.Work.{Task}
use Rattle.run_rules.specs.Work.Task.{ask}
use Rattle.line_interpreter.specs.Lefts.{IsTodo}
use Rattle.line_interpreter.specs.declared.tasks.Todo.{Todo}
use Rattle.line_interpreter.specs.declared.tasks.Todo.TheVariants as todo
use Rattle.audit_course.specs.Progressing.{Counts}
use Rattle.audit_course.proofs.judge.counted.Goals as goal

pub returns-in-Move : goal.returns-in-Move
returns-in-Move c = λ left is t next.
    let here : IsTodo todo.Move left = subst (λ (x : Todo). IsTodo x left) c.in-Move.is is in
    let m = here.0 in
    let first = here.1 in
    let e : ask (a_move m) ≡ t = cc (first, next) in
    subst (λ (x : Task). Counts c.args.line c.with_move.result x) e (c.with_move.ensures m)

pub returns-in-Mark : goal.returns-in-Mark
returns-in-Mark c = λ left is t next.
    let here : IsTodo (todo.Mark c.in-Mark.field-0) left = subst (λ (x : Todo). IsTodo x left) c.in-Mark.is is in
    let first = here.0 in
    let e : ask (a_mark c.in-Mark.field-0) ≡ t = cc (first, next) in
    subst (λ (x : Task). Counts c.args.line c.with_mark.result x) e (c.with_mark.ensures c.in-Mark.field-0)
