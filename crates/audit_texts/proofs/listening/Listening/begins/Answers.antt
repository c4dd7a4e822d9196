use Rattle.std.proofs.Common.{◌≡◌, refl, ap, arith, rules}
use Rattle.audit_texts.specs.declared.listening.Listening.{Listening}
use Rattle.audit_texts.proofs.ConsoleRead.{begins_by, report_first, no_banner}
use Rattle.audit_texts.proofs.listening.Listening.begins.Goals as goal

pub returns-clause-begins : goal.returns-clause-begins
returns-clause-begins g c = λ text opens.
    let old = c.args.self.now in
    let mid : Listening = record old { reader = c.skip_reports.new.self } in
    let none : mid.reader.place ≡ 0 = search rules in
    begins_by c.takes.result old mid c.takes.new.self (g.S.Source.state c.args.source.now) (g.S.Source.state c.skip_reports.new.source) text opens c.in_ok-skip_reports.ensures none refl c.takes.ensures.known c.takes.ensures.taken
    (λ e. ap (λ (l : Listening). l.reader) (c.takes.ensures.same e))

pub returns-then-place-gt0-clause-no : goal.returns-then-place-gt0-clause-no
returns-then-place-gt0-clause-no g c = λ no text opens.
    let old = c.args.self.now in
    let mid : Listening = record old { reader = c.skip_reports.new.self } in
    let some : mid.reader.place ≡ 0 → ⊥ = search rules in
    report_first old mid (g.S.Source.state c.args.source.now) (g.S.Source.state c.skip_reports.new.source) text opens c.in_ok-skip_reports.ensures some

pub returns-clause-no : goal.returns-clause-no
returns-clause-no g c = λ no text opens.
    let old = c.args.self.now in
    let mid : Listening = record old { reader = c.skip_reports.new.self } in
    let none : mid.reader.place ≡ 0 = search rules in
    no_banner old mid (g.S.Source.state c.args.source.now) (g.S.Source.state c.skip_reports.new.source) text opens c.in_ok-skip_reports.ensures none (c.takes.ensures.other no (omega (arith, none)) refl)
