-- What a plan has left to run, and whether a segment of it is due, by what the motion is doing.
use Rattle.std.specs.Prelude.{ℕ, Bool, true, false, ◌&&◌, ◌||◌, not, nat_eq, nat_le, List, [], ◌∷◌, length}
use Rattle.line_geom.specs.declared.Block.{Block}
use Rattle.feed_hold.specs.declared.Motion.{Motion}
use Rattle.feed_hold.specs.Motions.{is_going, is_stopping}
use Rattle.plan_rules.specs.Plans.{Planned}

-- a block is in the plan
abbrev pub has_blocks : List Block → Bool
has_blocks [] = false
has_blocks (b ∷ blocks) = true

-- no move can be added to a plan of at most so many blocks
abbrev pub is_full : ℕ → Planned → Bool
is_full most p = nat_le most (length p.blocks)

-- it moves, and slows down to a stop
abbrev pub is_slowing : Motion → ℕ → Bool
is_slowing m speed = is_stopping m && not (nat_eq speed 0)

-- a segment is due: the plan has an event left, and the machine runs, or slows down to a stop
abbrev pub has_segment : Motion → Planned → Bool
has_segment m p = (is_going m || is_slowing m p.speed) && has_blocks p.blocks
