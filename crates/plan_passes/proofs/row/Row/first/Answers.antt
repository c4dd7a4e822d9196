use Rattle.std.proofs.Common.{◌≡◌, ◌+◌, ◌-◌, take, drop, length, take-take, arith, ap, sym, ◌∙◌}
use Rattle.plan_passes.proofs.Rows.{length-standing}
use Rattle.plan_passes.proofs.row.Row.first.Goals as goal

pub returns-clause-part : goal.returns-clause-part
returns-clause-part g c =
    let r = c.self.inside in
    let on : r.start + c.args.count - r.start ≡ c.args.count = omega arith in
    ap (λ n. take n (drop r.start r.places)) on
    ∙ sym (take-take c.args.count g.row.N (drop r.start r.places) c.requires) ∙ ap (take c.args.count) c.self.view_is

pub returns-clause-long : goal.returns-clause-long
returns-clause-long g c =
    let r = c.self.inside in
    let on : r.start + c.args.count - r.start ≡ c.args.count = omega arith in
    ap (λ n. length (take n (drop r.start r.places))) on ∙ length-standing c.args.count r.start r.places (omega (arith, c.self.invariant, c.requires))
