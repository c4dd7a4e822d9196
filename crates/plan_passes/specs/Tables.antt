-- What is kept beside the blocks of a plan, in rows that may be longer than they are, and what a plan's fields keep.
use Rattle.std.specs.Prelude.{◌≡◌, ℕ, ◌-◌, ◌≤◌, ◌<◌, List, length, get_or, take, drop, map}
use Rattle.line_geom.specs.declared.Block.{Block}
use Rattle.overrides.specs.declared.Overrides.{Overrides}
use Rattle.profile.specs.Caps.{caps, planned}
use Rattle.profile.specs.Settled.{IsSettled}
use Rattle.plan_rules.specs.Blocks.{gaps_of, nominal_speed, softs_of}
use Rattle.plan_rules.specs.Plans.{Planned, planned_at, IsReached, IsPointer}

-- the gap of each block, and the soft cap of each junction
pub record IsTabled (bs : List Block) (o : Overrides) (gap_row soft_row : List ℕ) : Type 0 where
  pub gaps : take (length bs) gap_row ≡ gaps_of bs
  pub softs : take (length bs - 1) soft_row ≡ softs_of o bs

-- the nominal speed of each block
abbrev pub nominals_of : Overrides → List Block → List ℕ
nominals_of o bs = map (nominal_speed o) bs

-- a row of N places whose first is gone: what came after it is one place up
abbrev pub IsMovedUp : {X : Type 0} → ℕ → List X → List X → Type 0
IsMovedUp N xs ys = (n : ℕ) → n < N → take n ys ≡ take n (drop 1 xs)

-- speeds that are planned up to a settled point
pub record IsOnward (w from : ℕ) (gaps softs speeds : List ℕ) : Type 0 where
  pub first : planned w gaps softs 0 ≡ w
  pub planned_to : (j : ℕ) → 0 < j → j ≤ from → get_or speeds j 0 ≡ planned w gaps softs j
  pub settled : IsSettled gaps (caps w gaps softs) from

-- what the fields of a plan of N slots keep: what every plan keeps, the planned speed at each point, what is kept beside the
-- blocks, and a settled point
pub record KeepsPlan (N : ℕ) (p : Planned) (speeds gap_row soft_row : List ℕ) (settled : ℕ) : Type 0 where
  pub some : 2 ≤ N
  pub few : N ≤ 64
  pub room : length p.blocks < N
  pub reached : IsReached p
  pub planned : (j : ℕ) → 0 < j → j ≤ length p.blocks → get_or speeds j 0 ≡ planned_at p j
  pub tabled : IsTabled p.blocks p.overrides gap_row soft_row
  pub pointer : IsPointer p settled
