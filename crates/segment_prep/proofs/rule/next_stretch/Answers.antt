use Rattle.std.proofs.Common.{◌<◌, sym, subst, arith}
use Rattle.plan_rules.specs.declared.Mode.{Mode}
use Rattle.plan_rules.specs.Taking.{ByMode}
use Rattle.segment_prep.proofs.Sizes.{is_going, is_holding}
use Rattle.segment_prep.proofs.rule.next_stretch.Goals as goal

pub returns-in-Go-clause-rule : goal.returns-in-Go-clause-rule
returns-in-Go-clause-rule c = λ p at_speed at_exit at_top.
    let b = c.args.b.now in
    let s = c.going.result in
    subst (λ (mode : Mode). ByMode p b mode s.n s.w_out) (sym c.in-Go.is)
    (is_going p b c.args.w c.args.exit c.args.nominal s.n s.w_out at_speed at_exit at_top c.going.ensures.events c.going.ensures.speed)

pub returns-in-Hold-2-clause-rule : goal.returns-in-Hold-2-clause-rule
returns-in-Hold-2-clause-rule c = λ p at_speed at_exit at_top.
    let b = c.args.b.now in
    let s = c.holding.result in
    let moves : 0 < c.args.w = omega (arith, c.if-w-eq0.false) in
    subst (λ (mode : Mode). ByMode p b mode s.n s.w_out) (sym c.in-Hold.is)
    (is_holding p b c.args.w s.n s.w_out moves at_speed c.holding.ensures.events c.holding.ensures.speed)
