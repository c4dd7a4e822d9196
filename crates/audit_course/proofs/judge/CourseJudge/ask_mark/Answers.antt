use Rattle.std.proofs.Common.{◌||◌, ◌∙◌, List, ap, sym}
use Rattle.run_rules.specs.Work.{Task}
use Rattle.line_interpreter.specs.Interpreting.{Interpreting}
use Rattle.audit_course.specs.Progressing.{has_halt}
use Rattle.audit_course.proofs.judge.CourseJudge.ask_mark.Goals as goal

pub returns-then-is_ending-clause-halting : goal.returns-then-is_ending-clause-halting
returns-then-is_ending-clause-halting c =
    let halts = λ (ts : List Task). c.args.self.now.line.halts || has_halt ts in
    ap halts (ap (λ (i : Interpreting). i.left) c.done.ensures) ∙ ap halts (sym c.requires.0)
