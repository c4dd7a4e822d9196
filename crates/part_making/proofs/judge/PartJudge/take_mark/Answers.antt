use Rattle.std.proofs.Common.{◌≡◌, ◌∙◌, ap, sym, subst, Some}
use Rattle.std.specs.declared.option.Option.{Option}
use Rattle.legal_heads.specs.Speeds.{MayMark}
use Rattle.legal_heads.specs.declared.ToldHead.{ToldHead}
use Rattle.part_making.specs.declared.Item.TheVariants as items
use Rattle.part_making.specs.Judging.{Known, MayBeNext, rest_of}
use Rattle.part_making.proofs.Going.{mark_goes, other_item, none_comes, no_rest, not_true}
use Rattle.part_making.proofs.judge.PartJudge.take_mark.Goals as goal

pub returns-clause-yes : goal.returns-clause-yes
returns-clause-yes c = λ e.
    let is = c.is_mark.ensures.0 c.if-not-is_mark.false in
    let next : c.args.self.now.next ≡ Some (items.Mark c.args.mark.now) = sym (ap (λ (k : Known). k.next) c.self.view_is) ∙ is in
    let none = no_rest (rest_of c.args.self.now.latest) (λ some. not_true c.has_rest.result c.if-has_rest.false (c.has_rest.ensures.1 some)) in
    mark_goes c.args.self.now c.args.mark.now (subst MayBeNext is c.self.invariant) none (none_comes c.args.self.now.latest c.latest.ensures.traced none) next
    (subst (λ (o : Option ToldHead). MayMark o c.args.mark.now) c.latest.ensures.head (c.comes_next.ensures.0 c.if-not-comes_next.false))

pub returns-then-not-is_mark-clause-no : goal.returns-then-not-is_mark-clause-no
returns-then-not-is_mark-clause-no c = λ e.
    let next : c.self.inside.next ≡ c.args.self.now.next = ap (λ (k : Known). k.next) c.self.view_is in
    let none = no_rest (rest_of c.args.self.now.latest) (λ some. not_true c.has_rest.result c.if-has_rest.false (c.has_rest.ensures.1 some)) in
    other_item c.args.self.now c.args.mark.now (subst MayBeNext next c.self.invariant) none c.requires.owes
    (λ is. not_true c.is_mark.result c.if-not-is_mark.true (c.is_mark.ensures.1 (next ∙ is)))
