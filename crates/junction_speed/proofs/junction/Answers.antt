use Rattle.std.proofs.Common.{◌≡◌, ◌∙◌, sym, ap, rules, true, false, int_lt, pos, neg_ℤ, ◌-ℤ◌, ◌*◌, ◌/◌, min, nat_abs}
use Rattle.std.proofs.lemmas.Int.{to_z-of_z}
use mir.Syntax.{w128}
use mir.Val.{SFits}
use Rattle.units.specs.Roots.{root_of}
use Rattle.line_geom.specs.declared.Cap.TheVariants.{At}
use Rattle.line_geom.specs.Junctions.{corner_of, sine_of}
use Rattle.junction_speed.proofs.Caps.{cap_back, cap_on, cap_corner, junction_at}
use Rattle.junction_speed.proofs.junction.Goals as goal

pub returns-then-turn-gt999999 : goal.returns-then-turn-gt999999
returns-then-turn-gt999999 c =
    let turn = c.turn-turn.result in
    let fits : SFits w128 turn = search rules in
    let back : int_lt (pos 999999) turn ≡ true = simp to_z-of_z at c.if-turn-gt999999.true in
    sym (junction_at c.args.prev.now c.args.next.now c.args.deviation turn c.turn-turn.ensures ∙ cap_back turn _ c.args.deviation back)

pub returns-then-turn-ltminus999999 : goal.returns-then-turn-ltminus999999
returns-then-turn-ltminus999999 c =
    let turn = c.turn-turn.result in
    let fits : SFits w128 turn = search rules in
    let back : int_lt (pos 999999) turn ≡ false = simp to_z-of_z at c.if-turn-gt999999.false in
    let on : int_lt turn (neg_ℤ (pos 999999)) ≡ true = simp to_z-of_z at c.if-turn-ltminus999999.true in
    sym (junction_at c.args.prev.now c.args.next.now c.args.deviation turn c.turn-turn.ensures ∙ cap_on turn _ c.args.deviation back on)

pub returns : goal.returns
returns c =
    let turn = c.turn-turn.result in
    let fits : SFits w128 turn = search rules in
    let back : int_lt (pos 999999) turn ≡ false = simp to_z-of_z at c.if-turn-gt999999.false in
    let on : int_lt turn (neg_ℤ (pos 999999)) ≡ false = simp to_z-of_z at c.if-turn-ltminus999999.false in
    let gap : c.gap.result ≡ nat_abs (pos 1000000 -ℤ turn) = simp to_z-of_z at c.gap.ensures.gap in
    let sine : c.half_sine.result ≡ sine_of turn = c.half_sine.ensures.sine ∙ ap (λ g. root_of (g * 1000000 / 2)) gap in
    let corner : c.corner.result ≡ min (corner_of (min c.args.prev.now.accel c.args.next.now.accel) c.args.deviation (sine_of turn)) 18446744073709551615 =
    c.corner.ensures
    ∙ ap (λ s. min (corner_of c.lesser_accel-accel.result c.args.deviation s) 18446744073709551615) sine
    ∙ ap (λ a. min (corner_of a c.args.deviation (sine_of turn)) 18446744073709551615) c.lesser_accel-accel.ensures in
    ap At corner
    ∙ sym (junction_at c.args.prev.now c.args.next.now c.args.deviation turn c.turn-turn.ensures ∙ cap_corner turn (min c.args.prev.now.accel c.args.next.now.accel) c.args.deviation back on)
