use Rattle.std.proofs.Common.{◌≡◌, ◌∙◌, ap, sym, subst, Some, None}
use Rattle.std.specs.declared.option.Option.{Option}
use Rattle.legal_heads.specs.Speeds.{ComesNext}
use Rattle.legal_heads.specs.declared.ToldHead.{ToldHead}
use Rattle.legal_heads.specs.declared.Told.TheVariants as told_as
use Rattle.step_line.specs.declared.Record.TheVariants as kinds
use Rattle.part_making.specs.declared.Item.TheVariants as items
use Rattle.part_making.specs.Judging.{Traced, Known, Goes, first_head}
use Rattle.part_making.proofs.Going.{head_begins, first_head_refused, none_comes, no_move_begins, not_true}
use Rattle.part_making.proofs.judge.PartJudge.begin_move.Goals as goal

pub returns-clause-yes : goal.returns-clause-yes
returns-clause-yes c = λ e.
    let next : c.args.self.now.next ≡ Some (items.Move c.in-Some.planned) = sym (ap (λ (k : Known). k.next) c.self.view_is) ∙ c.next_move.ensures.found c.in-Some.planned c.in-Some.is in
    let may = c.may_come.ensures.0 c.if-not-may_come.false in
    let out = none_comes c.args.self.now.latest c.latest.ensures.traced c.requires.done in
    let comes = subst (λ (o : Option ToldHead). ComesNext o (told_as.Head (first_head c.in-Some.planned c.args.head.now))) c.latest.ensures.head may.1 in
    let goes = head_begins c.args.self.now c.in-Some.planned c.args.head.now c.requires.done out next may.0 comes in
    subst (λ (t : Traced). Goes c.args.self.now (kinds.Head c.args.head.now) (record { latest = Some t; next = None })) (sym c.begin.ensures) goes

pub returns-then-not-may_come-clause-no : goal.returns-then-not-may_come-clause-no
returns-then-not-may_come-clause-no c = λ e.
    let next : c.args.self.now.next ≡ Some (items.Move c.in-Some.planned) = sym (ap (λ (k : Known). k.next) c.self.view_is) ∙ c.next_move.ensures.found c.in-Some.planned c.in-Some.is in
    first_head_refused c.args.self.now c.in-Some.planned c.args.head.now c.latest.ensures.traced c.requires.done next
    (λ of_move comes. not_true c.may_come.result c.if-not-may_come.true
    (c.may_come.ensures.1 (of_move, subst (λ (o : Option ToldHead). ComesNext o (told_as.Head (first_head c.in-Some.planned c.args.head.now))) (sym c.latest.ensures.head) comes)))

pub returns-in_default-clause-no : goal.returns-in_default-clause-no
returns-in_default-clause-no c = λ e.
    let next : c.self.inside.next ≡ c.args.self.now.next = ap (λ (k : Known). k.next) c.self.view_is in
    no_move_begins c.args.self.now c.args.head.now c.requires.done c.requires.owes (λ m is. c.next_move.ensures.none c.in_default.is m (next ∙ is))
