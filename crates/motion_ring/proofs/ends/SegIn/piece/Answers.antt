use Rattle.std.proofs.Common.{◌≡◌, ◌%◌, Some, ◌∷◌, length, sym, ap, ◌∙◌, rules, arith}
use Rattle.atomic_table.specs.Table.{rest}
use Rattle.motion_ring.specs.Sides.{passed_in}
use Rattle.motion_ring.proofs.Getting.{grasps}
use Rattle.motion_ring.proofs.ends.SegIn.piece.Goals as goal

pub load-head-requires : goal.load-head-requires
load-head-requires c = let o = c.args.self.now in (search rules, search rules, grasps _ _ _ _ o.mine.0 o.mine.1 c.requires)

pub exchange-requires : goal.exchange-requires
exchange-requires c =
    let o = c.args.self.now in
    let found = c.load-head.ensures.2.2 (omega arith) in
    let took = ap (λ m. m.1) found.1 in
    let at : length (passed_in o.seat.me.0.taken) % 6 ≡ o.slot = sym (o.placed ∙ ap (λ z. z % 6) o.gotten) in
    (search rules, (Some found.0, took ∙ (λ i. (at i, Some found.0) ∷ sym (ap rest took) i)))
