use Rattle.std.proofs.Common.{◌∙◌, [], ap, sym, subst}
use Rattle.outside.specs.Causes.{SourceState}
use Rattle.audit_course.specs.declared.judge.CourseJudge.{CourseJudge}
use Rattle.run_audit.specs.Finding.{LeadsOnIf, Looks, ReadsOnIf}
use Rattle.run_audit.specs.OnWay.{IsLater}
use Rattle.run_audit.proofs.EndAlarm.{ends_behind_alarm, goes_on_when, is_answered}
use Rattle.run_audit.proofs.Under.{finish_on, goes_on_by}
use Rattle.run_audit.proofs.auditor.Auditor.end_by_alarm.Goals as goal

pub returns-clause-goes_on : goal.returns-clause-goes_on
returns-clause-goes_on g c =
    let a = c.args.self.now in
    let before = g.J.Source.state c.args.job.now in
    let after = g.J.Source.state c.read_ahead.new.job in
    let console = g.C.Source.state c.args.console.now in
    let steps = g.S.Source.state c.args.steps.now in
    goes_on_by c.finish.result (λ found f. finish_on a c.read_ahead.new.self c.finish.new.self before console steps after console steps (g.C.Source.state c.finish.new.console) (g.S.Source.state c.finish.new.steps) found
    (λ jt ct st u. c.in_ok-read_ahead.ensures.ahead console steps jt ct st u) (f after)) c.finish.ensures.found

pub returns-clause-stands : goal.returns-clause-stands
returns-clause-stands g c = λ later raised.
    let a = c.args.self.now in
    let b = c.read_ahead.new.self in
    let ahead = c.in_ok-read_ahead.ensures in
    let same = ahead.others.course in
    let later_now = subst (λ (x : CourseJudge). IsLater x c.args.record) (sym same) later in
    let answered = ap (λ (x : CourseJudge). x.unanswered) same ∙ is_answered a.course.unanswered a.course.line.halts raised in
    let after = g.J.Source.state c.read_ahead.new.job in
    let console = g.C.Source.state c.args.console.now in
    let steps = g.S.Source.state c.args.steps.now in
    let console_now = g.C.Source.state c.finish.new.console in
    let steps_now = g.S.Source.state c.finish.new.steps in
    goes_on_when {F = λ found. (job : SourceState) → ReadsOnIf [] (Looks b c.args.record) b c.finish.new.self job console steps job console_now steps_now found} {G = λ found. LeadsOnIf (Looks a c.args.record) a c.finish.new.self (g.J.Source.state c.args.job.now) console steps after console_now steps_now found}
    c.finish.result
    (λ found on. ends_behind_alarm a b c.finish.new.self c.args.record (g.J.Source.state c.args.job.now) after console steps console_now steps_now found ahead.others ahead.answered ahead.sent ahead.halts raised (λ all. on all after))
    (λ all. c.finish.ensures.stands later_now answered all)
