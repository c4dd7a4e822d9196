-- The segment rule: how many events of the tail are taken next, the squared speed after them, and how long they take.
use Rattle.std.specs.Prelude.{◌≡◌, ℕ, ◌+◌, ◌-◌, ◌*◌, ◌/◌, ◌≤◌, ◌<◌, ◌⊎◌, min, max, nat_eq, cond, List, [], ◌∷◌}
use Rattle.units.specs.Roots.{root_of}
use Rattle.line_geom.specs.declared.Block.{Block}
use Rattle.profile.specs.Profiles.{distance}
use Rattle.profile.specs.Slowing.{speed_after}
use Rattle.plan_rules.specs.Blocks.{left_of, top_of, hard_of, squared}
use Rattle.plan_rules.specs.Plans.{Planned, exit_of}

-- how many events of a block are taken at squared speed w: those of about 10 ms, but one at least, and no more than are
-- left
abbrev pub count_of : Block → ℕ → ℕ
count_of b w = max 1 (min (left_of b) (root_of (w + b.geom.q) * 10 * b.geom.n / b.geom.length))

-- how many it takes to stop from squared speed w
abbrev pub stop_of : Block → ℕ → ℕ
stop_of b w = (w + b.geom.q - 1) / b.geom.q

-- mode Go: n events, and the speed v after them
pub record IsGoing (p : Planned) (b : Block) (n v : ℕ) : Type 0 where
  pub events : n ≡ count_of b p.speed
  pub speed : v ≡ speed_after p.speed b.geom.q n (left_of b - n) (exit_of p) (top_of p.overrides b)

-- mode Hold: no more events than it takes to stop, and as slow after them as they allow
pub record IsHolding (p : Planned) (b : Block) (n v : ℕ) : Type 0 where
  pub moves : 0 < p.speed
  pub events : n ≡ min (count_of b p.speed) (stop_of b p.speed)
  pub speed : v ≡ p.speed - b.geom.q * n

abbrev pub IsSegmentOf : Planned → List Block → ℕ → ℕ → Type 0
IsSegmentOf p [] n v = ⊥
IsSegmentOf p (b ∷ bs) n v = IsGoing p b n v ⊎ IsHolding p b n v

-- n and v are those of the plan's next segment, in mode Go or Hold
abbrev pub IsSegment : Planned → ℕ → ℕ → Type 0
IsSegment p n v = IsSegmentOf p p.blocks n v

-- the speed in µm/s at which n events go that change the squared speed from w to v: never below 1, and at most the
-- nominal one, unless it was higher before
abbrev pub pace_of : Block → ℕ → ℕ → ℕ → ℕ → ℕ
pace_of b nominal w v n = max 1 (root_of (min (squared (max nominal (root_of w))) ((w + v + b.geom.q * n) / 2)))

-- the cycles of a clock of 16 MHz from one event to the next at that pace, rounded up
abbrev pub cycles_of : Block → ℕ → ℕ
cycles_of b pace = (16000 * b.geom.length + b.geom.n * pace - 1) / (b.geom.n * pace)

-- n events of the tail are prepared; a tail with none left is gone
abbrev pub moved : ℕ → List Block → List Block
moved n [] = []
moved n (b ∷ bs) = cond (nat_eq n (left_of b)) bs (record b { prepared = b.prepared + n } ∷ bs)

-- the plan after a segment of n events, at the speed v
abbrev pub advanced : Planned → ℕ → ℕ → Planned
advanced p n v = record p { blocks = moved n p.blocks; speed = v }

-- a block ends at a speed that the junction with the next one allows, and at 0 if none follows
abbrev pub IsLegalEnd : Block → List Block → ℕ → Type 0
IsLegalEnd b [] v = v ≡ 0
IsLegalEnd b (c ∷ cs) v = v ≤ hard_of b c

-- n events of a block change the squared speed from w to v, before the blocks bs
pub record IsLegal (b : Block) (bs : List Block) (w n v : ℕ) : Type 0 where
  pub change : distance w v ≤ b.geom.q * n
  pub rapid : v ≤ squared b.geom.rapid
  pub at_end : n ≡ left_of b → IsLegalEnd b bs v

-- n events of the tail may change the squared speed so
abbrev pub IsLegalStep : List Block → ℕ → ℕ → ℕ → Type 0
IsLegalStep [] w n v = ⊥
IsLegalStep (b ∷ bs) w n v = IsLegal b bs w n v
