use Rattle.std.proofs.Common.{◌∙◌, sym, ap, subst, Some}
use Rattle.std.specs.declared.option.Option.{Option}
use Rattle.step_line.specs.declared.Record.TheVariants as kinds
use Rattle.part_making.specs.Judging.{Known, Traced, Goes, Refuses}
use Rattle.part_making.proofs.judge.PartJudge.continue_move.Goals as goal

pub returns-clause-yes : goal.returns-clause-yes
returns-clause-yes c = λ e.
    let now : Known = record { latest = Some c.take_head.new.self; next = c.self.inside.next } in
    subst (λ (k : Known). Goes k (kinds.Head c.args.head.now) now) (ap (λ (l : Option Traced). record { latest = l; next = c.self.inside.next }) (sym c.in-Some.is) ∙ c.self.view_is)
    (c.take_head.ensures.yes e c.self.inside.next)

pub returns-clause-no : goal.returns-clause-no
returns-clause-no c = λ e.
    subst (λ (k : Known). Refuses k (kinds.Head c.args.head.now)) (ap (λ (l : Option Traced). record { latest = l; next = c.self.inside.next }) (sym c.in-Some.is) ∙ c.self.view_is)
    (c.take_head.ensures.no e c.self.inside.next)
