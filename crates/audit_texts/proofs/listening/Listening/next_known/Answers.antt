use Rattle.std.proofs.Common.{◌∙◌, refl, subst}
use Rattle.status_report.specs.declared.Reply.TheVariants as replies
use Rattle.audit_texts.specs.SoFar.{TakesReply}
use Rattle.audit_texts.specs.declared.listening.Listening.{Listening}
use Rattle.audit_texts.proofs.ConsoleRead.{becomes_known}
use Rattle.audit_texts.proofs.listening.Listening.next_known.Goals as goal

pub returns-then-takes-clause-known : goal.returns-then-takes-clause-known
returns-then-takes-clause-known c = λ none. becomes_known c.args.self.now c.takes.new.self (replies.Error 8) none refl refl (c.takes.ensures.taken c.if-takes.true)

pub returns-then-takes-2-clause-known : goal.returns-then-takes-2-clause-known
returns-then-takes-2-clause-known c = λ none.
    becomes_known c.args.self.now c.takes-2.new.self (replies.Error 9) none refl refl
    (subst (λ (l : Listening). TakesReply l.reader c.takes-2.new.self.reader (replies.Error 9)) (c.takes.ensures.same c.if-takes.false) (c.takes-2.ensures.taken c.if-takes-2.true))

pub returns-then-takes-3-clause-known : goal.returns-then-takes-3-clause-known
returns-then-takes-3-clause-known c = λ none.
    becomes_known c.args.self.now c.takes-3.new.self (replies.Alarm 3) none refl refl
    (subst (λ (l : Listening). TakesReply l.reader c.takes-3.new.self.reader (replies.Alarm 3)) (c.takes-2.ensures.same c.if-takes-2.false ∙ c.takes.ensures.same c.if-takes.false) (c.takes-3.ensures.taken c.if-takes-3.true))

pub returns-then-takes-4-clause-known : goal.returns-then-takes-4-clause-known
returns-then-takes-4-clause-known c = λ none.
    becomes_known c.args.self.now c.takes-4.new.self replies.Banner none refl refl
    (subst (λ (l : Listening). TakesReply l.reader c.takes-4.new.self.reader replies.Banner) (c.takes-3.ensures.same c.if-takes-3.false ∙ c.takes-2.ensures.same c.if-takes-2.false ∙ c.takes.ensures.same c.if-takes.false)
    (c.takes-4.ensures.taken c.if-takes-4.true))
