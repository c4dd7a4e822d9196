use Rattle.std.proofs.Common.{◌≡◌, ◌∙◌, None, Some, ap, rules}
use Rattle.audit_texts.specs.declared.listening.Listening.{Listening}
use Rattle.audit_texts.proofs.ConsoleRead.{known_heard, reply_heard, unknown_by}
use Rattle.audit_texts.proofs.ConsoleNext.{hears_not, known_heard_on, reply_heard_on}
use Rattle.audit_texts.proofs.listening.Listening.hears.Goals as goal

pub returns-in-Some-clause-so_far : goal.returns-in-Some-clause-so_far
returns-in-Some-clause-so_far g c = λ text told so_far.
    let known : c.args.self.now.known ≡ Some c.in-Some.known = search rules in
    known_heard c.args.self.now (g.S.Source.state c.args.source.now) text told c.in-Some.known c.args.reply.now c.is_same.result known c.is_same.ensures.same so_far

pub returns-clause-so_far : goal.returns-clause-so_far
returns-clause-so_far g c = λ text told so_far.
    let old = c.args.self.now in
    let mid : Listening = record old { reader = c.skip_reports.new.self } in
    let unknown : old.known ≡ None = unknown_by old.known c.in_default.not-Some in
    reply_heard old mid c.takes.new.self (g.S.Source.state c.args.source.now) (g.S.Source.state c.skip_reports.new.source) text told c.args.reply.now c.takes.result unknown unknown (c.takes.ensures.known ∙ unknown) c.requires.plain
    c.in_ok-skip_reports.ensures c.takes.ensures.taken (λ e. ap (λ (l : Listening). l.reader) (c.takes.ensures.same e)) so_far

pub returns-in-Some-clause-stands : goal.returns-in-Some-clause-stands
returns-in-Some-clause-stands g c =
    let known : c.args.self.now.known ≡ Some c.in-Some.known = search rules in
    known_heard_on c.args.self.now (g.S.Source.state c.args.source.now) c.in-Some.known c.args.reply.now c.is_same.result known c.is_same.ensures.same c.is_same.ensures.other

pub returns-clause-stands : goal.returns-clause-stands
returns-clause-stands g c =
    let old = c.args.self.now in
    let mid : Listening = record old { reader = c.skip_reports.new.self } in
    let unknown : old.known ≡ None = unknown_by old.known c.in_default.not-Some in
    reply_heard_on old mid c.takes.new.self (g.S.Source.state c.args.source.now) (g.S.Source.state c.skip_reports.new.source) c.args.reply.now c.takes.result unknown unknown c.in_ok-skip_reports.ensures
    c.takes.ensures.taken c.takes.ensures.other

pub returns-in-Some-clause-no : goal.returns-in-Some-clause-no
returns-in-Some-clause-no g c =
    let known : c.args.self.now.known ≡ Some c.in-Some.known = search rules in
    let s = g.S.Source.state c.args.source.now in
    hears_not c.is_same.result c.args.self.now s c.args.reply.now
    (known_heard_on c.args.self.now s c.in-Some.known c.args.reply.now c.is_same.result known c.is_same.ensures.same c.is_same.ensures.other)

pub returns-clause-no : goal.returns-clause-no
returns-clause-no g c =
    let old = c.args.self.now in
    let mid : Listening = record old { reader = c.skip_reports.new.self } in
    let unknown : old.known ≡ None = unknown_by old.known c.in_default.not-Some in
    let s = g.S.Source.state c.args.source.now in
    hears_not c.takes.result old s c.args.reply.now
    (reply_heard_on old mid c.takes.new.self s (g.S.Source.state c.skip_reports.new.source) c.args.reply.now c.takes.result unknown unknown c.in_ok-skip_reports.ensures c.takes.ensures.taken c.takes.ensures.other)
