use Rattle.std.proofs.Common.{◌≡◌, ◌∷◌, ◌++◌, ◌%◌, Some, [], sym, ap, ◌∙◌, rules, arith}
use Rattle.atomic_table.specs.Table.{rest}
use Rattle.motion_ring.proofs.Getting.{skips}
use Rattle.motion_ring.proofs.calls.drop_piece.Goals as goal

pub load-requires : goal.load-requires
load-requires c = let r = c.requires.may in let t = c.requires.table in (t.same, (let w = t.words in omega arith), skips _ _ _ _ r.mine r.above r.below)

pub exchange-requires : goal.exchange-requires
exchange-requires c =
    let r = c.requires.may in
    let found = c.load.ensures.2 in
    let took = ap (λ m. m.1) found.1 in
    (search rules, (Some found.0, took ∙ (λ i. (sym r.place i, Some found.0) ∷ sym (ap rest took) i)))
