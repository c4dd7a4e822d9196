use Rattle.std.proofs.Common.{◌≡◌, ◌≤◌, ◌∙◌, None, refl, rules}
use Rattle.audit_readers.specs.Windows.{too_long}
use Rattle.audit_texts.specs.declared.recorded.Recorded.{Recorded}
use Rattle.audit_texts.proofs.StepsRead.{read_by, some_recorded, line_found, long_not_found}
use Rattle.audit_texts.proofs.StepsNext.{known_stands_in, line_stands, long_stands}
use Rattle.audit_texts.proofs.recorded.Recorded.look.Goals as goal

pub returns-clause-so_far : goal.returns-clause-so_far
returns-clause-so_far g c =
    let old = c.args.self.now in
    let mid : Recorded = record old { reader = c.next.new.self; at = c.place-self.result } in
    let none : old.next ≡ None = search rules in
    read_by c.in_ok-line.line old mid c.keep.new.self (g.S.Source.state c.args.source.now) (g.S.Source.state c.next.new.source) none c.in_ok-line.ensures refl refl c.keep.ensures.reader (c.keep.ensures.at ∙ c.place-self.ensures)
    c.keep.ensures.kept c.keep.ensures.none

pub returns-then-is_some-clause-found : goal.returns-then-is_some-clause-found
returns-then-is_some-clause-found g c =
    let some : c.args.self.now.next ≡ None → ⊥ = search rules in
    some_recorded c.args.self.now (g.S.Source.state c.args.source.now) some

pub returns-then-self-ge-TOO_LONG-clause-found : goal.returns-then-self-ge-TOO_LONG-clause-found
returns-then-self-ge-TOO_LONG-clause-found g c =
    let long : too_long ≤ c.args.self.now.reader.place = search rules in
    long_not_found c.args.self.now (g.S.Source.state c.args.source.now) None long

pub returns-clause-found : goal.returns-clause-found
returns-clause-found g c =
    let old = c.args.self.now in
    let mid : Recorded = record old { reader = c.next.new.self; at = c.place-self.result } in
    let none : old.next ≡ None = search rules in
    line_found c.in_ok-line.line old mid c.keep.new.self (g.S.Source.state c.args.source.now) (g.S.Source.state c.next.new.source) none c.in_ok-line.ensures refl c.keep.ensures.kept c.keep.ensures.none

pub returns-then-is_some-clause-stands : goal.returns-then-is_some-clause-stands
returns-then-is_some-clause-stands g c =
    let some : c.args.self.now.next ≡ None → ⊥ = search rules in
    known_stands_in c.args.self.now (g.S.Source.state c.args.source.now) some

pub returns-then-self-ge-TOO_LONG-clause-stands : goal.returns-then-self-ge-TOO_LONG-clause-stands
returns-then-self-ge-TOO_LONG-clause-stands g c =
    let old = c.args.self.now in
    let long : too_long ≤ old.reader.place = search rules in
    long_stands None old (record old { at = c.place-self.result }) (g.S.Source.state c.args.source.now) long

pub returns-clause-stands : goal.returns-clause-stands
returns-clause-stands g c =
    let old = c.args.self.now in
    let mid : Recorded = record old { reader = c.next.new.self; at = c.place-self.result } in
    let none : old.next ≡ None = search rules in
    line_stands c.in_ok-line.line old mid c.keep.new.self (g.S.Source.state c.args.source.now) (g.S.Source.state c.next.new.source) none c.in_ok-line.ensures refl refl c.keep.ensures.reader (c.keep.ensures.at ∙ c.place-self.ensures)
    c.keep.ensures.kept c.keep.ensures.none
