use Rattle.std.proofs.Common.{◌≡◌, ◌∙◌, sym, ap, subst, Some, rules}
use Rattle.legal_heads.specs.Speeds.{IsOfItsMove, ComesNext}
use Rattle.legal_heads.specs.declared.ToldHead.{ToldHead}
use Rattle.legal_heads.specs.declared.Told.TheVariants as told_as
use Rattle.step_line.specs.declared.Record.TheVariants as kinds
use Rattle.part_making.specs.Judging.{Traced, Goes, head_on}
use Rattle.part_making.proofs.Going.{head_goes_on}
use Rattle.part_making.proofs.traced.Traced.take_head.Goals as goal

pub returns-clause-yes : goal.returns-clause-yes
returns-clause-yes c = λ e next.
    let may = c.may_come.ensures.0 (search rules) in
    let out : c.args.self.now.out ≡ c.args.self.now.told.head.n = search rules in
    let told : c.next_head-told.result ≡ head_on c.args.self.now c.args.head.now = c.next_head-told.ensures in
    let latest : c.self.inside.told ≡ c.args.self.now.told = ap (λ (t : Traced). t.told) c.self.view_is in
    let comes : ComesNext (Some c.args.self.now.told) (told_as.Head (head_on c.args.self.now c.args.head.now)) =
    subst (λ (h : ToldHead). ComesNext (Some c.args.self.now.told) (told_as.Head h)) told (subst (λ (a : ToldHead). ComesNext (Some a) (told_as.Head c.next_head-told.result)) latest may.1) in
    let goes = head_goes_on c.args.self.now next c.args.head.now c.is_out.ensures.valid out (subst IsOfItsMove told may.0) comes in
    subst (λ (t : Traced). Goes (record { latest = Some c.args.self.now; next = next }) (kinds.Head c.args.head.now) (record { latest = Some t; next = next }))
    (ap (λ (h : ToldHead). record { told = h; out = 0 }) (sym told) ∙ sym c.begin_next.ensures) goes
