use Rattle.std.proofs.Common.{◌≡◌, ◌≤◌, sym, ap, ◌∙◌, subst, rules, arith}
use Rattle.motion_ring.specs.Sides.{ticks_published, unfinished_in}
use Rattle.motion_ring.proofs.Ticks.{few_known, halt_stands}
use Rattle.motion_ring.proofs.Publishing.{heeds, sees}
use Rattle.motion_ring.proofs.ends.SegOut.halted.Goals as goal

pub load-requires : goal.load-requires
load-requires c = let o = c.args.self.now in (search rules, search rules, heeds _ _ _ _ o.mine.0 c.requires)

pub load-done-requires : goal.load-done-requires
load-done-requires c =
    let o = c.args.self.now in
    let found = c.load.ensures.2.1 (let e = o.counted in omega arith) in
    (search rules, search rules, sees _ _ _ _ (ap (λ m. m.0.may_publish) found.1 ∙ o.mine.0))

pub returns-clause-within : goal.returns-clause-within
returns-clause-within c =
    let o = c.args.self.now in
    let found = c.load.ensures.2.1 (let e = o.counted in omega arith) in
    let told = c.load-done.ensures.2.0 in
    let same : c.load-done.result ≡ found.0 = halt_stands o.seat.me.0 c.load.new.seat.me.0 c.load.result found.0 c.load-done.result (ap (λ m. m.0) found.1) told in
    subst (λ n. (n ≤ ticks_published o.seat.me.0.sent) × (unfinished_in o.seat.me.0.sent n ≤ 5)) (sym same) (found.2.no_more, few_known _ _ found.2)
