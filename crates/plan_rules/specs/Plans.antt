-- A plan: its blocks from the tail on, the present squared speed, and the overrides that it is planned for.
use Rattle.std.specs.Prelude.{◌≡◌, ℕ, ◌-◌, ◌<◌, ◌≤◌, nat_eq, cond, List, [], ◌∷◌, ◌++◌, length, drop, get_or}
use Rattle.std.specs.List.{All}
use Rattle.line_geom.specs.declared.Cap.{Cap}
use Rattle.line_geom.specs.declared.Cap.TheVariants.{At}
use Rattle.line_geom.specs.Junctions.{junction_of}
use Rattle.line_geom.specs.declared.Block.{Block}
use Rattle.overrides.specs.declared.Overrides.{Overrides}
use Rattle.overrides.specs.Percents.{IsOverrides}
use Rattle.profile.specs.Profiles.{IsWithinLimits, profile}
use Rattle.profile.specs.Caps.{caps, planned}
use Rattle.profile.specs.Slowing.{IsSlowable}
use Rattle.profile.specs.Settled.{IsSettled}
use Rattle.plan_rules.specs.Blocks.{IsBlock, gaps_of, hards_of, softs_of, squared}

pub record Planned : Type 0 where
  pub blocks : List Block
  pub speed : ℕ
  pub overrides : Overrides

-- the cap of each point: the present speed; the junctions' soft caps, as far as the speed can fall to them; 0 at the
-- end
abbrev pub caps_of : Planned → List ℕ
caps_of p = caps p.speed (gaps_of p.blocks) (softs_of p.overrides p.blocks)

-- the planned speed at each point
abbrev pub profile_of : Planned → List ℕ
profile_of p = profile (gaps_of p.blocks) (caps_of p)

-- the planned speed at point j
unfoldable pub planned_at : Planned → ℕ → ℕ
planned_at p j = planned p.speed (gaps_of p.blocks) (softs_of p.overrides p.blocks) j

-- the planned speed at the end of the tail
abbrev pub exit_of : Planned → ℕ
exit_of p = planned_at p 1

-- the planned speeds begin with the present one, and are the greatest within the limits
pub record IsGreatest (p : Planned) : Type 0 where
  pub first : get_or (profile_of p) 0 0 ≡ p.speed
  pub within : IsWithinLimits (gaps_of p.blocks) (caps_of p) (profile_of p)
  pub greatest : (speeds : List ℕ) → IsWithinLimits (gaps_of p.blocks) (caps_of p) speeds
      → (j : ℕ) → j ≤ length p.blocks → get_or speeds j 0 ≤ get_or (profile_of p) j 0

-- the present speed is one that the axes allow along the tail
abbrev pub IsWithinRapid : List Block → ℕ → Type 0
IsWithinRapid [] w = Unit {0}
IsWithinRapid (b ∷ bs) w = w ≤ squared b.geom.rapid

-- what every plan keeps: above all, its speed can be slowed down to each hard cap ahead, and to 0 at the end
pub record IsReached (p : Planned) : Type 0 where
  pub each : All IsBlock p.blocks
  pub overrides : IsOverrides p.overrides
  pub slowable : IsSlowable p.speed (gaps_of p.blocks) (hards_of p.blocks)
  pub rapid : IsWithinRapid p.blocks p.speed

-- b is the block that is run
pub record IsTail (p : Planned) (b : Block) : Type 0 where
  pub stands : p.blocks ≡ b ∷ drop 1 p.blocks
  pub block : IsBlock b
  pub rapid : p.speed ≤ squared b.geom.rapid

-- the caps up to point j alone limit its speed
abbrev pub IsSettledAt : Planned → ℕ → Type 0
IsSettledAt p j = IsSettled (gaps_of p.blocks) (caps_of p) j

-- a settled point before the end, or 0 if there is no block
pub record IsPointer (p : Planned) (j : ℕ) : Type 0 where
  pub before : 0 < length p.blocks → j < length p.blocks
  pub none : length p.blocks ≡ 0 → j ≡ 0
  pub settled : IsSettledAt p j

-- the last such point
pub record IsLastPoint (p : Planned) (j : ℕ) : Type 0 where
  pub point : IsPointer p j
  pub last : (i : ℕ) → i < length p.blocks → IsSettledAt p i → i ≤ j

-- the entry cap of a block that is added: that of its junction with the last block
abbrev pub entry_at : List Block → Block → ℕ → Cap
entry_at bs b deviation =
    cond (nat_eq (length bs) 0) (At 0) (junction_of (get_or bs (length bs - 1) b).geom b.geom deviation)

abbrev pub entered : List Block → Block → ℕ → Block
entered bs b deviation = record b { entry = entry_at bs b deviation }

-- the plan with one block more, under these overrides
abbrev pub added : Planned → Block → ℕ → Overrides → Planned
added p b deviation o = record p { blocks = p.blocks ++ entered p.blocks b deviation ∷ []; overrides = o }
