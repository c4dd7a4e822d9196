use Rattle.std.proofs.Common.{◌≡◌, ◌<◌, ◌≤◌, None, false, nat_eq, refl, arith, rules}
use Rattle.std.proofs.lemmas.Bool.Decides.{nat_tests}
use Rattle.run_rules.specs.Told.{replies_text}
use Rattle.audit_readers.specs.Windows.{too_long}
use Rattle.audit_texts.specs.declared.listening.Listening.{Listening}
use Rattle.audit_texts.proofs.ConsoleRead.{read_to_more, ended}
use Rattle.audit_texts.proofs.ConsoleNext.{ends_not, known_more, long_more, rest_more}
use Rattle.audit_texts.proofs.listening.Listening.ends.Goals as goal

pub returns-then-place-ge-TOO_LONG-clause-read : goal.returns-then-place-ge-TOO_LONG-clause-read
returns-then-place-ge-TOO_LONG-clause-read g c = λ text h.
    let old = c.args.self.now.reader in
    let z = c.in_ok-skip_reports.ensures.some in
    read_to_more old.window c.skip_reports.new.self.window (g.S.Source.state c.args.source.now) (g.S.Source.state c.skip_reports.new.source) old.place c.skip_reports.new.self.place text (replies_text z.reports) h z.text z.place

pub returns-then-none-clause-read : goal.returns-then-none-clause-read
returns-then-none-clause-read g c = λ text h.
    let old = c.args.self.now.reader in
    let mid = c.skip_reports.new.self in
    let z = c.in_ok-skip_reports.ensures.some in
    let t = c.in_ok-take_rest.ensures.some in
    read_to_more mid.window c.take_rest.new.self.window (g.S.Source.state c.skip_reports.new.source) (g.S.Source.state c.take_rest.new.source) mid.place c.take_rest.new.self.place text t.bytes
    (read_to_more old.window mid.window (g.S.Source.state c.args.source.now) (g.S.Source.state c.skip_reports.new.source) old.place mid.place text (replies_text z.reports) h z.text z.place) t.text t.count

pub returns-else-none-clause-read : goal.returns-else-none-clause-read
returns-else-none-clause-read g c = λ text h.
    let old = c.args.self.now.reader in
    let mid = c.skip_reports.new.self in
    let z = c.in_ok-skip_reports.ensures.some in
    let t = c.in_ok-take_rest.ensures.some in
    read_to_more mid.window c.take_rest.new.self.window (g.S.Source.state c.skip_reports.new.source) (g.S.Source.state c.take_rest.new.source) mid.place c.take_rest.new.self.place text t.bytes
    (read_to_more old.window mid.window (g.S.Source.state c.args.source.now) (g.S.Source.state c.skip_reports.new.source) old.place mid.place text (replies_text z.reports) h z.text z.place) t.text t.count

pub returns-then-none-clause-ends : goal.returns-then-none-clause-ends
returns-then-none-clause-ends g c = λ e text told so_far.
    let old = c.args.self.now in
    let mid : Listening = record old { reader = c.skip_reports.new.self } in
    let now : Listening = record old { reader = c.take_rest.new.self } in
    let known : old.known ≡ None = search rules in
    let short : mid.reader.place < too_long = search rules in
    let here = c.place.ensures in
    let there = c.place-place.ensures in
    let same : now.reader.place ≡ mid.reader.place = grind (arith, nat_tests, e, here, there) in
    ended old mid now (g.S.Source.state c.args.source.now) (g.S.Source.state c.skip_reports.new.source) (g.S.Source.state c.take_rest.new.source) text told known known c.in_ok-skip_reports.ensures short c.in_ok-take_rest.ensures same so_far

pub returns-then-place-ge-TOO_LONG-clause-stands : goal.returns-then-place-ge-TOO_LONG-clause-stands
returns-then-place-ge-TOO_LONG-clause-stands g c =
    let old = c.args.self.now in
    let mid : Listening = record old { reader = c.skip_reports.new.self } in
    let long : too_long ≤ mid.reader.place = search rules in
    long_more false old mid (g.S.Source.state c.args.source.now) (g.S.Source.state c.skip_reports.new.source) refl c.in_ok-skip_reports.ensures long

pub returns-then-place-ge-TOO_LONG-clause-no : goal.returns-then-place-ge-TOO_LONG-clause-no
returns-then-place-ge-TOO_LONG-clause-no g c =
    let old = c.args.self.now in
    let mid : Listening = record old { reader = c.skip_reports.new.self } in
    let long : too_long ≤ mid.reader.place = search rules in
    ends_not false old (g.S.Source.state c.args.source.now) (long_more false old mid (g.S.Source.state c.args.source.now) (g.S.Source.state c.skip_reports.new.source) refl c.in_ok-skip_reports.ensures long)

pub returns-then-none-clause-stands : goal.returns-then-none-clause-stands
returns-then-none-clause-stands g c =
    let old = c.args.self.now in
    let mid : Listening = record old { reader = c.skip_reports.new.self } in
    let now : Listening = record old { reader = c.take_rest.new.self } in
    let known : old.known ≡ None = search rules in
    let here = c.place.ensures in
    let there = c.place-place.ensures in
    let none = nat_eq c.place.result c.place-place.result in
    let other : none ≡ false → now.reader.place ≡ mid.reader.place → ⊥ = λ no same. grind (arith, nat_tests, no, here, there, same) in
    rest_more none old mid now (g.S.Source.state c.args.source.now) (g.S.Source.state c.skip_reports.new.source) (g.S.Source.state c.take_rest.new.source) known known c.in_ok-skip_reports.ensures c.in_ok-take_rest.ensures other

pub returns-then-none-clause-no : goal.returns-then-none-clause-no
returns-then-none-clause-no g c =
    let old = c.args.self.now in
    let mid : Listening = record old { reader = c.skip_reports.new.self } in
    let now : Listening = record old { reader = c.take_rest.new.self } in
    let known : old.known ≡ None = search rules in
    let here = c.place.ensures in
    let there = c.place-place.ensures in
    let none = nat_eq c.place.result c.place-place.result in
    let other : none ≡ false → now.reader.place ≡ mid.reader.place → ⊥ = λ no same. grind (arith, nat_tests, no, here, there, same) in
    ends_not none old (g.S.Source.state c.args.source.now) (rest_more none old mid now (g.S.Source.state c.args.source.now) (g.S.Source.state c.skip_reports.new.source) (g.S.Source.state c.take_rest.new.source) known known c.in_ok-skip_reports.ensures c.in_ok-take_rest.ensures other)

pub returns-else-none-clause-stands : goal.returns-else-none-clause-stands
returns-else-none-clause-stands g c =
    let old = c.args.self.now in
    let some : old.known ≡ None → ⊥ = search rules in
    known_more c.is_none-none.result old (g.S.Source.state c.args.source.now) some

pub returns-else-none-clause-no : goal.returns-else-none-clause-no
returns-else-none-clause-no g c =
    let old = c.args.self.now in
    let some : old.known ≡ None → ⊥ = search rules in
    ends_not c.is_none-none.result old (g.S.Source.state c.args.source.now) (known_more c.is_none-none.result old (g.S.Source.state c.args.source.now) some)
