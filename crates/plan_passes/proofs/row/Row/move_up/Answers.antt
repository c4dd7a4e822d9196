use Rattle.std.proofs.Common.{◌+◌, take, drop, arith, subst}
use Rattle.plan_passes.specs.Tables.{IsMovedUp}
use Rattle.plan_passes.proofs.Rows.{standing_later, standing_again}
use Rattle.plan_passes.proofs.row.Row.move_up.Goals as goal

pub returns-then-self-lt64 : goal.returns-then-self-lt64
returns-then-self-lt64 g c =
    let r = c.self.inside in
    subst (λ xs. IsMovedUp g.row.N xs (take g.row.N (drop (r.start + 1) r.places))) c.self.view_is (standing_later g.row.N r.start r.places)

pub returns : goal.returns
returns g c =
    let r = c.self.inside in
    subst (λ xs. IsMovedUp g.row.N xs (take g.row.N (drop 0 c.copy_within.new.self))) c.self.view_is
    (standing_again g.row.N r.start r.places c.copy_within.new.self (omega (arith, c.self.invariant)) c.copy_within.ensures.after)
