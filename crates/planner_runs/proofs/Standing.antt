-- The moves whose blocks stand in a plan.
use Rattle.std.proofs.Common.{◌≡◌, ◌+◌, ◌-◌, ℕ, List, [], ◌∷◌, ◌++◌, length, get_or, refl, ap, ◌∙◌, arith}
use Rattle.line_geom.specs.Junctions.{junction_of}
use Rattle.line_geom.specs.declared.Block.{Block}
use Rattle.plan_rules.specs.Plans.{entered}
use Rattle.step_line.specs.declared.planned_move.PlannedMove.{PlannedMove}
use Rattle.legal_heads.specs.Moves.{geometry_of}
use Rattle.step_line.specs.Asking.{IsPlannedMove}
use Rattle.planner_runs.specs.Runs.{block_of}
use Rattle.planner_runs.proofs.Runs.{entry_behind}

-- a block is that of a move
pub record IsBlockOf (m : PlannedMove) (b : Block) : Type 0 where
  pub move : IsPlannedMove m
  pub line : b.line ≡ m.line
  pub mv : b.mv ≡ m.mv
  pub geom : b.geom ≡ geometry_of m

-- so is one that comes behind another move's, of which nothing is prepared
pub record ComesBehind (a m : PlannedMove) (b : Block) : Type 0 where
  pub block : IsBlockOf m b
  pub fresh : b.prepared ≡ 0
  pub entry : b.entry ≡ junction_of (geometry_of a) (geometry_of m) m.deviation

abbrev pub StandBehind : PlannedMove → List Block → List PlannedMove → Type 0
StandBehind a [] [] = Unit {0}
StandBehind a (b ∷ bs) (m ∷ ms) = ComesBehind a m b × StandBehind m bs ms
StandBehind a bs ms = ⊥

-- the blocks are those of these moves, one by one
abbrev pub Stand : List Block → List PlannedMove → Type 0
Stand [] [] = Unit {0}
Stand (b ∷ bs) (m ∷ ms) = IsBlockOf m b × StandBehind m bs ms
Stand bs ms = ⊥

-- the last move of some
last_of : PlannedMove → List PlannedMove → PlannedMove
last_of a [] = a
last_of a (m ∷ ms) = last_of m ms

last_geometry : (m : PlannedMove) (ms : List PlannedMove) (b : Block) (bs : List Block) (d : Block) → IsBlockOf m b → StandBehind m bs ms
    → (get_or (b ∷ bs) (length bs) d).geom ≡ geometry_of (last_of m ms)
unfolding last_of
last_geometry m [] b [] d is stand = is.geom
last_geometry m (n ∷ ms) b (c ∷ cs) d is stand = last_geometry n ms c cs d stand.0.block stand.1
last_geometry m [] b (c ∷ cs) d is stand = absurd stand
last_geometry m (n ∷ ms) b [] d is stand = absurd stand

push_behind : (a : PlannedMove) (bs : List Block) (ms : List PlannedMove) (m : PlannedMove) (b : Block) → StandBehind a bs ms
    → ComesBehind (last_of a ms) m b → StandBehind a (bs ++ b ∷ []) (ms ++ m ∷ [])
unfolding last_of
push_behind a [] [] m b stand is = (is, tt)
push_behind a (c ∷ cs) (n ∷ ms) m b stand is = (stand.0, push_behind n cs ms m b stand.1 is)
push_behind a [] (n ∷ ms) m b stand is = absurd stand
push_behind a (c ∷ cs) [] m b stand is = absurd stand

-- one more move
pub stand_added : (bs : List Block) (ms : List PlannedMove) (m : PlannedMove) → Stand bs ms → IsPlannedMove m
    → Stand (bs ++ entered bs (block_of m) m.deviation ∷ []) (ms ++ m ∷ [])
stand_added [] [] m stand is = (record { move = is; line = refl; mv = refl; geom = refl }, tt)
stand_added (b ∷ bs) (n ∷ ms) m stand is =
    let e : length (b ∷ bs) - 1 ≡ length bs = omega arith in
    let last = ap (λ i. (get_or (b ∷ bs) i (block_of m)).geom) e ∙ last_geometry n ms b bs (block_of m) stand.0 stand.1 in (
      stand.0,
      push_behind n bs ms m (entered (b ∷ bs) (block_of m) m.deviation) stand.1 (record {
        block = record { move = is; line = refl; mv = refl; geom = refl };
        fresh = refl;
        entry = entry_behind b bs (block_of m) m.deviation ∙ ap (λ g. junction_of g (geometry_of m) m.deviation) last;
      }),
    )
stand_added [] (n ∷ ms) m stand is = absurd stand
stand_added (b ∷ bs) [] m stand is = absurd stand

-- n events of the tail are prepared, but not all
pub stand_left : (b : Block) (bs : List Block) (m : PlannedMove) (ms : List PlannedMove) (n : ℕ) → Stand (b ∷ bs) (m ∷ ms)
    → Stand (record b { prepared = b.prepared + n } ∷ bs) (m ∷ ms)
stand_left b bs m ms n stand =
    let is = stand.0 in (record { move = is.move; line = is.line; mv = is.mv; geom = is.geom }, stand.1)

-- the tail is gone
pub stand_gone : (m : PlannedMove) (bs : List Block) (ms : List PlannedMove) → StandBehind m bs ms → Stand bs ms
stand_gone m [] [] stand = tt
stand_gone m (b ∷ bs) (n ∷ ms) stand = (stand.0.block, stand.1)
stand_gone m [] (n ∷ ms) stand = absurd stand
stand_gone m (b ∷ bs) [] stand = absurd stand
