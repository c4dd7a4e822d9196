use Rattle.std.proofs.Common.{◌≡◌, ◌∙◌, None, true, false, refl, sym, rules}
use Rattle.audit_texts.specs.declared.recorded.Recorded.{Recorded}
use Rattle.audit_texts.proofs.StepsRead.{ends_by, goes_on_by}
use Rattle.audit_texts.proofs.StepsNext.{behind_told}
use Rattle.audit_texts.proofs.recorded.Recorded.ends.Goals as goal

pub returns-then-is_at_end-clause-ends : goal.returns-then-is_at_end-clause-ends
returns-then-is_at_end-clause-ends g c =
    let old = c.args.self.now in
    let now : Recorded = record old { reader = c.is_at_end.new.self; at = c.place-self.result } in
    let is = c.in_ok-is_at_end.ensures in
    ends_by c.is_none.result c.in_ok-is_at_end.is_at_end old now (g.S.Source.state c.args.source.now) (g.S.Source.state c.is_at_end.new.source) is.0 refl refl (λ text e yes. (is.1 text e).0 yes)
    (λ yes. let none : old.next ≡ None = search rules in (c.if-is_at_end.true, none))

pub returns-else-is_at_end-clause-ends : goal.returns-else-is_at_end-clause-ends
returns-else-is_at_end-clause-ends g c =
    let old = c.args.self.now in
    let now : Recorded = record old { reader = c.is_at_end.new.self; at = c.place-self.result } in
    let is = c.in_ok-is_at_end.ensures in
    ends_by c.in_ok-is_at_end.is_at_end c.in_ok-is_at_end.is_at_end old now (g.S.Source.state c.args.source.now) (g.S.Source.state c.is_at_end.new.source) is.0 refl refl (λ text e yes. (is.1 text e).0 yes)
    (λ yes. absurd (let e : false ≡ true = sym c.if-is_at_end.false ∙ yes in cc))

pub returns-then-is_at_end-clause-no : goal.returns-then-is_at_end-clause-no
returns-then-is_at_end-clause-no g c =
    let old = c.args.self.now in
    let now : Recorded = record old { reader = c.is_at_end.new.self; at = c.place-self.result } in
    let is = c.in_ok-is_at_end.ensures in
    goes_on_by c.is_none.result c.in_ok-is_at_end.is_at_end old now (g.S.Source.state c.args.source.now) (g.S.Source.state c.is_at_end.new.source) is.0 (λ text e none. (is.1 text e).1 none)
    (λ yes none. search rules)

pub returns-else-is_at_end-clause-no : goal.returns-else-is_at_end-clause-no
returns-else-is_at_end-clause-no g c =
    let old = c.args.self.now in
    let now : Recorded = record old { reader = c.is_at_end.new.self; at = c.place-self.result } in
    let is = c.in_ok-is_at_end.ensures in
    goes_on_by c.in_ok-is_at_end.is_at_end c.in_ok-is_at_end.is_at_end old now (g.S.Source.state c.args.source.now) (g.S.Source.state c.is_at_end.new.source) is.0 (λ text e none. (is.1 text e).1 none)
    (λ yes none. yes)

pub returns-then-is_at_end-clause-place : goal.returns-then-is_at_end-clause-place
returns-then-is_at_end-clause-place g c = λ text told so_far none. behind_told c.args.self.now (g.S.Source.state c.args.source.now) text told c.place-self.result c.place-self.ensures none so_far

pub returns-else-is_at_end-clause-place : goal.returns-else-is_at_end-clause-place
returns-else-is_at_end-clause-place g c = λ text told so_far none. behind_told c.args.self.now (g.S.Source.state c.args.source.now) text told c.place-self.result c.place-self.ensures none so_far
