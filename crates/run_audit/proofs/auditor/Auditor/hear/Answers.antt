use Rattle.std.proofs.Common.{◌≡◌, ◌-◌, ◌∷◌, ◌++◌, [], ℕ, Bool, cond, refl, sym, ap, ◌∙◌, subst, arith}
use Rattle.audit_texts.specs.SoFar.{Hears, IsHeardOn, StandsSo}
use Rattle.run_audit.specs.declared.auditor.Auditor.{Auditor}
use Rattle.run_audit.specs.declared.auditor.Finding.TheVariants.{BadReplies}
use Rattle.run_audit.proofs.Under.{reply_told, bad_found, can_be_read}
use Rattle.audit_texts.proofs.StepsRead.{read_to}
use Rattle.run_audit.proofs.NotHeard.{unheard_found}
use Rattle.run_audit.proofs.LeadsOn.{reply_leads}
use Rattle.run_audit.proofs.auditor.Auditor.hear.Goals as goal

-- the line before the next one
is_line : (number result line : ℕ) → result ≡ number → line ≡ result - 1 → line ≡ number - 1
is_line number result line is before = omega (arith, is, before)

pub returns-then-is_answer-clause-goes_on : goal.returns-then-is_answer-clause-goes_on
returns-then-is_answer-clause-goes_on g c = λ job steps.
    let a = c.args.self.now in
    let b : Auditor = record a { course = c.told.new.self; listening = c.hears.new.self; answered = c.saturating_sub-line.result } in
    reply_told a b c.reply-reply.result job (g.C.Source.state c.args.console.now) steps (g.C.Source.state c.hears.new.source) (λ t told h. h) (λ t told h. h)
    (λ t told h. subst (λ (y : Bool). Hears y c.hears.new.self (g.C.Source.state c.hears.new.source) t (told ++ c.reply-reply.result ∷ [])) c.in-Ok-true.field-0-test (c.in-Ok-true.ensures.so_far t told h)) refl
    (c.told.ensures.adds c.reply-reply.result c.reply-reply.ensures.next)

pub returns-else-is_answer-clause-goes_on : goal.returns-else-is_answer-clause-goes_on
returns-else-is_answer-clause-goes_on g c = λ job steps.
    let a = c.args.self.now in
    let b : Auditor = record a { course = c.told.new.self; listening = c.hears.new.self } in
    reply_told a b c.reply-reply.result job (g.C.Source.state c.args.console.now) steps (g.C.Source.state c.hears.new.source) (λ t told h. h) (λ t told h. h)
    (λ t told h. subst (λ (y : Bool). Hears y c.hears.new.self (g.C.Source.state c.hears.new.source) t (told ++ c.reply-reply.result ∷ [])) c.in-Ok-true.field-0-test (c.in-Ok-true.ensures.so_far t told h)) refl
    (c.told.ensures.adds c.reply-reply.result c.reply-reply.ensures.next)

pub returns-in-Ok-false-clause-goes_on : goal.returns-in-Ok-false-clause-goes_on
returns-in-Ok-false-clause-goes_on g c = λ job steps.
    let a = c.args.self.now in
    let b : Auditor = record a { listening = c.hears.new.self } in
    let before = g.C.Source.state c.args.console.now in
    let after = g.C.Source.state c.hears.new.source in
    bad_found a b job before steps job after steps c.bad_reply.result c.bad_reply.ensures.bad (can_be_read a b job before steps job after steps (λ t told h. h)
    (λ t told h. subst (λ (y : Bool). Hears y c.hears.new.self after t (told ++ c.reply-reply.result ∷ [])) c.in-Ok-false.field-0-test (c.in-Ok-false.ensures.so_far t told h)) (λ t told h. read_to a.recorded steps t told h))

pub returns-then-is_answer-clause-stands : goal.returns-then-is_answer-clause-stands
returns-then-is_answer-clause-stands g c = λ job steps jt ct st short u is.
    let r = c.reply-reply.result in
    let next = c.reply-reply.ensures.next in
    reply_leads u c.told.new.self c.hears.new.self c.saturating_sub-line.result r next c.requires.answered
    (λ t told h. subst (λ (y : Bool). Hears y c.hears.new.self (g.C.Source.state c.hears.new.source) t (told ++ r ∷ [])) c.in-Ok-true.field-0-test (c.in-Ok-true.ensures.so_far t told h))
    (c.told.ensures.adds r next) (c.told.ensures.heard r next) c.told.ensures.work c.told.ensures.number c.told.ensures.line
    (is_line c.args.self.now.course.work.number c.number.result c.saturating_sub-line.result c.number.ensures c.saturating_sub-line.ensures ∙ ap (λ (t : Bool). cond t (c.args.self.now.course.work.number - 1) c.args.self.now.answered) (sym (sym c.is_answer.ensures ∙ c.if-is_answer.true)))

pub returns-else-is_answer-clause-stands : goal.returns-else-is_answer-clause-stands
returns-else-is_answer-clause-stands g c = λ job steps jt ct st short u is.
    let r = c.reply-reply.result in
    let next = c.reply-reply.ensures.next in
    reply_leads u c.told.new.self c.hears.new.self c.args.self.now.answered r next c.requires.answered
    (λ t told h. subst (λ (y : Bool). Hears y c.hears.new.self (g.C.Source.state c.hears.new.source) t (told ++ r ∷ [])) c.in-Ok-true.field-0-test (c.in-Ok-true.ensures.so_far t told h))
    (c.told.ensures.adds r next) (c.told.ensures.heard r next) c.told.ensures.work c.told.ensures.number c.told.ensures.line
    (ap (λ (t : Bool). cond t (c.args.self.now.course.work.number - 1) c.args.self.now.answered) (sym (sym c.is_answer.ensures ∙ c.if-is_answer.false)))

pub returns-in-Ok-false-clause-stands : goal.returns-in-Ok-false-clause-stands
returns-in-Ok-false-clause-stands g c = λ job steps jt ct st short u is n few.
    let r = c.reply-reply.result in
    let a = c.args.self.now in
    unheard_found u (record a { listening = c.hears.new.self }) short r c.reply-reply.ensures.next c.requires.answered
    (subst (λ (y : Bool). StandsSo (IsHeardOn y r) a.listening (g.C.Source.state c.args.console.now)) c.in-Ok-false.field-0-test c.in-Ok-false.ensures.stands) refl refl c.bad_reply.result
    (λ line. c.bad_reply.ensures.line line ∙ ap (λ (n : ℕ). BadReplies n) (is_line a.course.work.number c.number.result c.saturating_sub-line.result c.number.ensures c.saturating_sub-line.ensures)) c.bad_reply.ensures.behind
