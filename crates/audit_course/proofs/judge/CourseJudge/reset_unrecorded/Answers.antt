use Rattle.std.proofs.Common.{rules, ◌≡◌, ◌<◌, ◌+◌, ◌^◌, false, ap, sym, ◌∙◌, subst}
use Rattle.run_rules.specs.declared.State.{State}
use Rattle.line_interpreter.specs.Interpreting.{Interpreting}
use Rattle.audit_course.specs.Heard.{HearsReset, MayTellReset}
use Rattle.audit_course.specs.SoFar.{opened_at}
use Rattle.audit_course.specs.declared.judge.CourseJudge.{CourseJudge}
use Rattle.audit_course.proofs.Heard.{reset_heard, no_reset_heard}
use Rattle.audit_course.proofs.judge.CourseJudge.reset_unrecorded.Goals as goal

pub returns-clause-heard : goal.returns-clause-heard
returns-clause-heard c = λ yes lines count p before sent replies h.
    let j = c.close.new.self in
    let may : MayTellReset j c.args.alarm = search rules in
    let opens : c.open_epoch.new.self ≡ opened_at j.state.parser.pos_steps c.args.dropped c.args.alarm j =
    c.open_epoch.ensures.opens ∙ ap (λ (x : State). opened_at x.parser.pos_steps c.args.dropped c.args.alarm j) c.state.ensures.same in
    subst (λ (x : CourseJudge). HearsReset j x c.args.dropped) (sym opens) (reset_heard j c.args.dropped c.args.alarm may) lines count p before sent replies (c.close.ensures.heard p before sent replies h)

pub returns-then-not-may_tell_reset-clause-no : goal.returns-then-not-may_tell_reset-clause-no
returns-then-not-may_tell_reset-clause-no c = λ no done few.
    let same = c.close.ensures in
    let refused : c.may_tell_reset.result ≡ false = search rules in
    no_reset_heard c.args.self.now c.close.new.self c.args.alarm same.point (record { done = ap (λ (i : Interpreting). i.left) same.work ∙ done; closed = same.closed })
    (c.may_tell_reset.ensures.no refused (subst (λ (i : Interpreting). i.number + c.args.dropped < 2 ^ 32) (sym same.work) few))
