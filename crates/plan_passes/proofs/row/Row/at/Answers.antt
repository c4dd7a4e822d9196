use Rattle.std.proofs.Common.{◌<◌, length, get_or, arith, ap, sym, ◌∙◌}
use Rattle.std.proofs.lemmas.List.{get_or_read}
use Rattle.plan_passes.proofs.Rows.{standing_at, length-standing}
use Rattle.plan_passes.proofs.row.Row.at.Goals as goal

pub returns : goal.returns
returns g c =
    let r = c.self.inside in
    let x = c.index-self-self.result in
    let long = length-standing g.row.N r.start r.places (omega (arith, c.self.invariant)) in
    let within : c.args.i < length c.args.self.now = omega (arith, long, ap length c.self.view_is, c.requires) in
    λ d. sym c.index-self-self.is
    ∙ get_or_read c.args.self.now c.args.i x within
    (c.index-self-self.is ∙ standing_at g.row.N r.start r.places c.args.i x c.requires ∙ ap (λ xs. get_or xs c.args.i x) c.self.view_is) d
