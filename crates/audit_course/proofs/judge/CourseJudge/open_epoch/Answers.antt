use Rattle.std.proofs.Common.{◌≡◌, ◌≤◌, Bool, true, false, length, arith, ap, sym, ◌∙◌, subst}
use Rattle.run_rules.specs.Work.{tells, telling}
use Rattle.run_rules.proofs.Answering.{telling_tells}
use Rattle.line_interpreter.specs.Interpreting.{Interpreting}
use Rattle.line_interpreter.specs.Lefts.{greeting}
use Rattle.audit_course.specs.Progressing.{has_halt}
use Rattle.audit_course.proofs.Outcomes.{telling_halts}
use Rattle.audit_course.proofs.judge.CourseJudge.open_epoch.Goals as goal

short_greeting : (alarm locked : Bool) → length (telling (greeting alarm locked)) ≤ 3
short_greeting true true = omega arith
short_greeting true false = omega arith
short_greeting false true = omega arith
short_greeting false false = omega arith

pub returns-clause-greets : goal.returns-clause-greets
returns-clause-greets c = ap (λ (i : Interpreting). tells i.left) c.open_behind.ensures ∙ telling_tells (greeting c.args.alarm c.locks-locked.result) ∙ ap (greeting c.args.alarm) c.locks-locked.ensures

pub returns-clause-short : goal.returns-clause-short
returns-clause-short c = subst (λ (i : Interpreting). length i.left ≤ 3) (sym c.open_behind.ensures) (short_greeting c.args.alarm c.locks-locked.result)

pub returns-clause-quiet : goal.returns-clause-quiet
returns-clause-quiet c = subst (λ (i : Interpreting). has_halt i.left ≡ false) (sym c.open_behind.ensures) (telling_halts (greeting c.args.alarm c.locks-locked.result))
