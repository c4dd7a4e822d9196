use Rattle.std.proofs.Common.{rules, ◌≡◌, ◌<◌, ◌+◌, ◌^◌, false, ap, sym, ◌∙◌, subst}
use Rattle.units.specs.Lengths.{IsPlace}
use Rattle.line_interpreter.specs.Interpreting.{Interpreting}
use Rattle.audit_course.specs.SoFar.{MayReset, AddsReset}
use Rattle.audit_course.specs.declared.judge.CourseJudge.{CourseJudge}
use Rattle.audit_course.proofs.Ending.{reset_made}
use Rattle.audit_course.proofs.Resetting.{never_reset, resets_not, resets_not_there}
use Rattle.audit_course.proofs.judge.CourseJudge.reset.Goals as goal

pub returns-clause-yes : goal.returns-clause-yes
returns-clause-yes c = λ yes lines count first sent replies records s.
    let j = c.close.new.self in
    let may : MayReset j c.args.k c.args.alarm = search rules in
    subst (λ (x : CourseJudge). AddsReset j x c.args.k c.args.dropped) (sym c.open_epoch.ensures.opens) (reset_made j c.args.k c.args.dropped c.args.alarm may) lines count first sent replies records (c.close.ensures.stays first sent replies records s)

pub returns-then-not-may_reset-clause-here : goal.returns-then-not-may_reset-clause-here
returns-then-not-may_reset-clause-here c = λ no done place few.
    let same = c.close.ensures in
    let refused : c.may_reset.result ≡ false = search rules in
    resets_not_there c.args.self.now c.close.new.self c.args.k c.args.dropped c.args.alarm same.stands
    (resets_not c.close.new.self c.args.k c.args.dropped c.args.alarm (record { done = ap (λ (i : Interpreting). i.left) same.work ∙ done; closed = same.closed })
    (c.may_reset.ensures.no refused (subst IsPlace (sym same.place) place) (subst (λ (i : Interpreting). i.number + c.args.dropped < 2 ^ 32) (sym same.work) few)))

pub returns-then-not-may_reset-clause-no : goal.returns-then-not-may_reset-clause-no
returns-then-not-may_reset-clause-no c = λ no done number place few. never_reset c.args.self.now c.args.k c.args.dropped c.args.alarm (returns-then-not-may_reset-clause-here c no done place few) number
