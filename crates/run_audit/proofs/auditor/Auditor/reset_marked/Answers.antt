use Rattle.std.proofs.Common.{◌≡◌, ◌+◌, ℕ, refl, subst}
use Rattle.step_line.specs.declared.Mark.TheVariants as marks
use Rattle.step_line.specs.declared.Record.TheVariants as kinds
use Rattle.run_audit.proofs.LineNone.{breaks_causeless}
use Rattle.run_audit.proofs.Under.{broken_by}
use Rattle.run_audit.proofs.auditor.Auditor.reset_marked.Goals as goal

pub returns-then-lacks_cause-clause-goes_on : goal.returns-then-lacks_cause-clause-goes_on
returns-then-lacks_cause-clause-goes_on g c = λ console steps.
    broken_by c.args.self.now c.break_off.new.self (g.J.Source.state c.args.job.now) console steps c.break_off.ensures.sending c.break_off.ensures.listening c.break_off.ensures.recorded c.break_off.ensures.broken

pub returns-then-lacks_cause-clause-stands : goal.returns-then-lacks_cause-clause-stands
returns-then-lacks_cause-clause-stands g c = λ later number calm resets console steps jt ct st short u looks n done.
    let yes = c.if-lacks_cause.true in
    let lacks = c.lacks_cause.ensures in
    let e = c.break_off.ensures in
    breaks_causeless u c.break_off.new.self
    (record { sending = e.sending; listening = e.listening; recorded = e.recorded; course = e.others.0; answered = e.others.1; broken = e.at })
    n done (kinds.Mark (marks.Reset c.args.k)) later looks.0 c.args.self.now.listening.known resets looks.1 c.args.k refl number (lacks.answered yes) (lacks.none yes) (lacks.alarm yes)

pub returns-clause-stands : goal.returns-clause-stands
returns-clause-stands g c = λ later number calm resets.
    c.drop_lines.ensures.stands later (λ k e. subst (λ (m : ℕ). m + 1 ≡ c.args.self.now.course.work.number) (let same : c.args.k ≡ k = cc in same) number) (c.lacks_cause.ensures.caused c.if-lacks_cause.false) calm resets
