-- The blocks of a plan, from the tail on, and what bounds the squared speed over them.
use Rattle.std.specs.Prelude.{ℕ, ◌-◌, ◌*◌, ◌<◌, min, List, [], ◌∷◌, map}
use Rattle.units.specs.Limits.{IsRate}
use Rattle.line_geom.specs.Geometry.{IsGeomOf}
pub use Rattle.line_geom.specs.Caps.{squared, under}
use Rattle.line_geom.specs.declared.Block.{Block}
use Rattle.overrides.specs.declared.Overrides.{Overrides}
use Rattle.overrides.specs.Percents.{nominal_of}

-- a block that a plan may hold: its geometry is that of its move, and some of its events are left
pub record IsBlock (b : Block) : Type 0 where
  pub rate : IsRate b.rate
  pub geom : IsGeomOf b.mv b.geom
  pub left : b.prepared < b.geom.n

-- how many of its events are left
abbrev pub left_of : Block → ℕ
left_of b = b.geom.n - b.prepared

-- how much the squared speed may change over them
unfoldable pub gap_of : Block → ℕ
gap_of b = b.geom.q * left_of b

-- how fast a block is to go under overrides, in µm/s
abbrev pub nominal_speed : Overrides → Block → ℕ
nominal_speed o b = nominal_of o b.rate b.geom.rapid

-- the square of that
unfoldable pub top_of : Overrides → Block → ℕ
top_of o b = squared (nominal_speed o b)

-- the hard cap of the junction of two blocks: what the junction and the axes allow
unfoldable pub hard_of : Block → Block → ℕ
hard_of a b = under b.entry (min (squared a.geom.rapid) (squared b.geom.rapid))

-- its soft cap: at most the nominal speeds too
unfoldable pub soft_of : Overrides → Block → Block → ℕ
soft_of o a b = min (hard_of a b) (min (top_of o a) (top_of o b))

-- a number for each two blocks in a row
abbrev pub joints : (Block → Block → ℕ) → List Block → List ℕ
joints f [] = []
joints f (b ∷ []) = []
joints f (a ∷ b ∷ bs) = f a b ∷ joints f (b ∷ bs)

-- of each block, how much the squared speed may change over what is left of it
abbrev pub gaps_of : List Block → List ℕ
gaps_of bs = map gap_of bs

-- the hard cap of each junction
abbrev pub hards_of : List Block → List ℕ
hards_of bs = joints hard_of bs

-- the soft cap of each junction
abbrev pub softs_of : Overrides → List Block → List ℕ
softs_of o bs = joints (soft_of o) bs
