-- What a ring ends as, where its tail is lent.
use Rattle.std.specs.Prelude.{List, ◌∷◌, drop, Option}
use Rattle.std.specs.Borrow.{LendsIf, MutBor, Fml, RattleType}
use Rattle.line_geom.specs.declared.Block.{Block}
use Rattle.line_geom.specs.contracts.Block.{the_row as the_block}
use Rattle.planner_ring.specs.contracts.ring.Ring.{the_row}

-- the ring ends with the last block written through r in the tail's place, or as it was where there is no tail
abbrev pub LendsTail : RattleType → MutBor (List Block) → Option (MutBor Block) → Fml
LendsTail N s r = LendsIf (the_row N) the_block s r (λ b. b ∷ drop 1 s.now) s.now
