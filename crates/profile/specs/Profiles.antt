-- The greatest speeds at points in a row, as a least over all points.
--     gaps      how much the speed may change between each point and the next
--     caps      how much the speed may be at each point: one more than gaps
use Rattle.std.specs.Prelude.{◌≡◌, ℕ, zero, suc, ◌+◌, ◌-◌, ◌≤◌, ◌<◌, min, List, length, get_or, take, map}
use Rattle.std.specs.List.{sum, range_with_len}

-- the least of f 0, f 1 .. f n
unfoldable pub least : (ℕ → ℕ) → ℕ → ℕ
least f zero = f zero
least f (suc n) = min (least f n) (f (suc n))

-- how much the speed may change from the first point to point j
unfoldable pub place : List ℕ → ℕ → ℕ
place gaps j = sum (take j gaps)

abbrev pub distance : ℕ → ℕ → ℕ
distance m n = (m - n) + (n - m)

-- what the cap of point k allows at point j
unfoldable pub allowed_by : List ℕ → List ℕ → ℕ → ℕ → ℕ
allowed_by gaps caps j k = get_or caps k 0 + distance (place gaps k) (place gaps j)

-- the greatest speed at point j
unfoldable pub greatest : List ℕ → List ℕ → ℕ → ℕ
greatest gaps caps j = least (allowed_by gaps caps j) (length gaps)

-- the greatest speed at each point
unfoldable pub profile : List ℕ → List ℕ → List ℕ
profile gaps caps = map (greatest gaps caps) (range_with_len 0 (length gaps + 1))

-- speeds that are nowhere above a cap, and change by no more than the gaps
pub record IsWithinLimits (gaps caps speeds : List ℕ) : Type 0 where
  pub points : length speeds ≡ length gaps + 1
  pub capped : (j : ℕ) → j ≤ length gaps → get_or speeds j 0 ≤ get_or caps j 0
  pub smooth : (j : ℕ) → j < length gaps → distance (get_or speeds j 0) (get_or speeds (j + 1) 0) ≤ get_or gaps j 0
