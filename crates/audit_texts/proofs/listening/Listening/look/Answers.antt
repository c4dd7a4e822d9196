use Rattle.std.proofs.Common.{◌≡◌, None, refl, rules}
use Rattle.audit_texts.specs.declared.listening.Listening.{Listening}
use Rattle.audit_texts.proofs.ConsoleRead.{reports_skipped}
use Rattle.audit_texts.proofs.ConsoleNext.{finds, is_next, known_stands, next_stands}
use Rattle.audit_texts.proofs.listening.Listening.look.Goals as goal

pub returns-clause-so_far : goal.returns-clause-so_far
returns-clause-so_far g c = λ text told so_far.
    let old = c.args.self.now in
    let mid : Listening = record old { reader = c.skip_reports.new.self } in
    let none : old.known ≡ None = search rules in
    c.next_known-self.ensures.known none (g.S.Source.state c.skip_reports.new.source) text told
    (reports_skipped old mid (g.S.Source.state c.args.source.now) (g.S.Source.state c.skip_reports.new.source) text told refl c.in_ok-skip_reports.ensures so_far)

pub returns-then-is_some-clause-found : goal.returns-then-is_some-clause-found
returns-then-is_some-clause-found g c =
    let some : c.args.self.now.known ≡ None → ⊥ = search rules in
    let s = g.S.Source.state c.args.source.now in
    finds c.args.self.now.known c.args.self.now s (known_stands c.args.self.now s some)

pub returns-then-is_some-clause-stands : goal.returns-then-is_some-clause-stands
returns-then-is_some-clause-stands g c =
    let some : c.args.self.now.known ≡ None → ⊥ = search rules in
    let s = g.S.Source.state c.args.source.now in
    is_next c.args.self.now.known c.args.self.now s (known_stands c.args.self.now s some)

pub returns-clause-found : goal.returns-clause-found
returns-clause-found g c =
    let old = c.args.self.now in
    let mid : Listening = record old { reader = c.skip_reports.new.self } in
    let none : old.known ≡ None = search rules in
    let s = g.S.Source.state c.args.source.now in
    finds c.next_known-self.result old s (next_stands old mid s (g.S.Source.state c.skip_reports.new.source) c.next_known-self.result none none c.in_ok-skip_reports.ensures c.next_known-self.ensures.found)

pub returns-clause-stands : goal.returns-clause-stands
returns-clause-stands g c =
    let old = c.args.self.now in
    let mid : Listening = record old { reader = c.skip_reports.new.self } in
    let none : old.known ≡ None = search rules in
    let s = g.S.Source.state c.args.source.now in
    is_next c.next_known-self.result old s (next_stands old mid s (g.S.Source.state c.skip_reports.new.source) c.next_known-self.result none none c.in_ok-skip_reports.ensures c.next_known-self.ensures.found)
