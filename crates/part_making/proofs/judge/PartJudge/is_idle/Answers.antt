use Rattle.std.proofs.Common.{◌≡◌, ◌++◌, List, ap, ◌∙◌, sym, subst, None}
use Rattle.step_line.specs.declared.Record.{Record}
use Rattle.part_making.specs.Judging.{rest_of, all_ticks, Known, MayBeNext}
use Rattle.part_making.proofs.Going.{none_owed, next_tells, no_rest, not_true, none_waits, is_none}
use Rattle.part_making.proofs.judge.PartJudge.is_idle.Goals as goal

pub returns-then-has_rest-clause-owes : goal.returns-then-has_rest-clause-owes
returns-then-has_rest-clause-owes c = (λ e. absurd cc, λ none. absurd (c.has_rest.ensures.0 c.if-has_rest.true (none_owed (rest_of c.args.self.now.latest) (all_ticks c.args.self.now.next) none).0))

pub returns-clause-none : goal.returns-clause-none
returns-clause-none c = λ e. sym (ap (λ (k : Known). k.next) c.self.view_is) ∙ none_waits c.self.inside.next c.is_none.result c.is_none.ensures e

pub returns-clause-owes : goal.returns-clause-owes
returns-clause-owes c =
    let next : c.self.inside.next ≡ c.args.self.now.next = ap (λ (k : Known). k.next) c.self.view_is in
    let rest = no_rest (rest_of c.args.self.now.latest) (λ some. not_true c.has_rest.result c.if-has_rest.false (c.has_rest.ensures.1 some)) in (
      λ e.
          let none : c.args.self.now.next ≡ None = sym next ∙ none_waits c.self.inside.next c.is_none.result c.is_none.ensures e in
          ap (λ (rs : List Record). rs ++ all_ticks c.args.self.now.next) rest ∙ ap all_ticks none,
      λ none.
          let n : c.self.inside.next ≡ None = next ∙ next_tells c.args.self.now.next (subst MayBeNext next c.self.invariant) (none_owed (rest_of c.args.self.now.latest) (all_ticks c.args.self.now.next) none).1 in
          is_none c.self.inside.next c.is_none.result c.is_none.ensures n,
    )
