-- The points of a plan and their caps: the present place, the junctions between the blocks, and the end.
--     w         the present speed
--     gaps      of each block, how much the speed may change over what is left of it
--     softs     what each junction allows, as long as the speed can fall so far on the way: one less than gaps
--     hards     what each junction allows at most
use Rattle.std.specs.Prelude.{◌≡◌, ℕ, ◌+◌, ◌-◌, ◌≤◌, ◌<◌, max, List, [], ◌∷◌, ◌++◌, length, get_or, map}
use Rattle.std.specs.List.{range_with_len}
use Rattle.profile.specs.Profiles.{place, greatest}

-- the cap of the point after block j: the soft one, unless the speed can't fall so far on the way
abbrev pub cap_of : ℕ → List ℕ → List ℕ → ℕ → ℕ
cap_of w gaps softs j = max (get_or softs j 0) (w - place gaps (j + 1))

-- the cap at each point: the present speed, the junctions, and 0 at the end
unfoldable pub caps : ℕ → List ℕ → List ℕ → List ℕ
caps w gaps softs = w ∷ (map (cap_of w gaps softs) (range_with_len 0 (length softs)) ++ 0 ∷ [])

-- the planned speed at point j: the greatest within these limits
unfoldable pub planned : ℕ → List ℕ → List ℕ → ℕ → ℕ
planned w gaps softs j = greatest gaps (caps w gaps softs) j

-- no soft cap is above its hard one
pub record IsSofter (softs hards : List ℕ) : Type 0 where
  pub as_many : length softs ≡ length hards
  pub below : (j : ℕ) → j < length hards → get_or softs j 0 ≤ get_or hards j 0
