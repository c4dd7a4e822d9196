-- Which speeds a plan may have, and how a segment changes them.
use Rattle.std.specs.Prelude.{ℕ, ◌+◌, ◌-◌, ◌*◌, ◌≤◌, ◌<◌, min, max, List, length, get_or}
use Rattle.std.specs.List.{sum}
use Rattle.profile.specs.Profiles.{place}

-- from speed w the plan can slow down to each hard cap ahead, and stop at its end
pub record IsSlowable (w : ℕ) (gaps hards : List ℕ) : Type 0 where
  pub stops : w ≤ sum gaps
  pub slows : (j : ℕ) → j < length hards → w ≤ get_or hards j 0 + place gaps (j + 1)

-- the speed after n events of a block that change it by at most q each, `left` of which come after them: as fast as
-- `top` and those events allow, and slow enough for the planned speed at the block's end
abbrev pub speed_after : ℕ → ℕ → ℕ → ℕ → ℕ → ℕ → ℕ
speed_after w q n left exit top = min (exit + q * left) (max (min (w + q * n) top) (w - q * n))
