use Rattle.std.proofs.Common.{length, set, arith, ap, sym, ◌∙◌}
use Rattle.plan_passes.proofs.Rows.{length-standing, standing_put}
use Rattle.plan_passes.proofs.row.Row.put.Goals as goal

pub returns-clause-put : goal.returns-clause-put
returns-clause-put g c =
    let r = c.self.inside in
    standing_put g.row.N r.start r.places c.args.i c.args.x c.requires ∙ ap (λ xs. set xs c.args.i c.args.x) c.self.view_is

pub returns-clause-places : goal.returns-clause-places
returns-clause-places g c =
    let r = c.self.inside in
    sym (ap length c.self.view_is) ∙ length-standing g.row.N r.start r.places (omega (arith, c.self.invariant))
