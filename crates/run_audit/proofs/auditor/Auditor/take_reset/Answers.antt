use Rattle.std.proofs.Common.{ap, refl, sym, ◌∙◌, subst}
use Rattle.step_line.specs.declared.Mark.TheVariants.{Reset as ResetMark}
use Rattle.step_line.specs.declared.Record.TheVariants as kinds
use Rattle.run_audit.specs.declared.auditor.Auditor.{Auditor}
use Rattle.run_audit.proofs.Under.{reset_told, reset_untold}
use Rattle.line_interpreter.specs.declared.interpreter.Interpreter.{Interpreter}
use Rattle.run_audit.proofs.BreaksOff.{off}
use Rattle.run_audit.proofs.StageOn.{HeardAs}
use Rattle.run_audit.proofs.MarkRefused.{PassesReset, mark_refused}
use Rattle.run_audit.proofs.ResetSteps.{mark_taken}
use Rattle.run_audit.proofs.auditor.Auditor.take_reset.Goals as goal

pub returns-then-reset-clause-so_far : goal.returns-then-reset-clause-so_far
returns-then-reset-clause-so_far c = λ lines few job console steps jt ct st u.
    let a = c.args.self.now in
    let b : Auditor = record a { course = c.reset.new.self; recorded = c.take.new.self } in
    reset_told a b c.args.k c.args.dropped lines job console steps jt ct st (λ t told h. h) (λ t told h. h) (λ t told h. c.take.ensures.told (kinds.Mark (ResetMark c.args.k)) c.requires.next steps t told h) refl
    (c.reset.ensures.yes c.if-reset.true) few u

pub returns-clause-so_far : goal.returns-clause-so_far
returns-clause-so_far c = λ lines few job console steps jt ct st u.
    let a = c.args.self.now in
    let b = c.pass_reset.new.self in
    reset_untold a b _ job console steps jt ct st (c.pass_reset.ensures.sending ∙ c.break_off.ensures.sending) (c.pass_reset.ensures.listening ∙ c.break_off.ensures.listening) (c.pass_reset.ensures.recorded ∙ c.break_off.ensures.recorded) c.pass_reset.ensures.broken u

pub returns-then-reset-clause-stands : goal.returns-then-reset-clause-stands
returns-then-reset-clause-stands c = λ later behind calm cause resets same lines count last job console steps.
    let a = c.args.self.now in
    let yes = c.if-reset.true in
    let e = c.reset.ensures in
    mark_taken a lines c.args.dropped count c.args.alarm a.listening.known resets same calm last c.reset.new.self c.take.new.self c.args.k later (e.yes yes) (e.greets yes) (e.answered yes) (e.calm yes) (e.quiet yes) (e.short yes) (e.no_line yes) (e.begins yes).kept job console steps
    (c.take.ensures.told (kinds.Mark (ResetMark c.args.k)) c.requires.next steps)

pub returns-clause-stands : goal.returns-clause-stands
returns-clause-stands c = λ later behind calm cause resets same lines count last job console steps.
    let a = c.args.self.now in
    let k = c.reset.new.self in
    let no = c.if-reset.false in
    let e = c.reset.ensures in
    let o = c.break_off.ensures in
    let work = e.work no in
    let h : HeardAs a.course k = record { heard = e.heard no; unanswered = e.unanswered no; left = ap (λ (w : Interpreter). w.left) work; number = ap (λ (w : Interpreter). w.number) work; halts = e.halts no } in
    mark_refused a c.pass_reset.new.self k h c.args.k c.args.dropped c.args.alarm c.pass_reset.result
    (λ counts.
    subst (λ (x : Auditor). PassesReset x c.pass_reset.new.self c.args.dropped c.args.alarm c.pass_reset.result)
    (sym (off (record a { course = k }) c.break_off.new.self (record { sending = o.sending; listening = o.listening; recorded = o.recorded; course = o.others.0; answered = o.others.1; broken = o.at counts })))
    c.pass_reset.ensures.stands)
    (e.here no) later (behind c.args.k refl) calm cause resets same lines count last job console steps
