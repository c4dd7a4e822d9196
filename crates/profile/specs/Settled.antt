-- The points whose speed no later cap limits, and speeds that are planned up to a point.
use Rattle.std.specs.Prelude.{◌≡◌, ℕ, ◌+◌, ◌≤◌, ◌<◌, List, length, get_or}
use Rattle.profile.specs.Profiles.{least, allowed_by, greatest}
use Rattle.profile.specs.Passes.{greatest_ahead}

-- the greatest speed at point j, as far as the caps up to it go
unfoldable pub greatest_behind : List ℕ → List ℕ → ℕ → ℕ
greatest_behind gaps caps j = least (allowed_by gaps caps j) j

-- the caps up to point j alone limit its speed
unfoldable pub IsSettled : List ℕ → List ℕ → ℕ → Type 0
IsSettled gaps caps j = greatest gaps caps j ≡ greatest_behind gaps caps j

-- each point up to j has its greatest speed, and each one after it its cap
pub record IsPlannedTo (gaps caps : List ℕ) (j : ℕ) (speeds : List ℕ) : Type 0 where
  pub points : length speeds ≡ length gaps + 1
  pub planned : (i : ℕ) → i ≤ j → get_or speeds i 0 ≡ greatest gaps caps i
  pub left : (i : ℕ) → j < i → i ≤ length gaps → get_or speeds i 0 ≡ get_or caps i 0

-- each point up to j has its greatest speed, and each one after it what its own cap and the later ones allow
pub record IsHeldTo (gaps caps : List ℕ) (j : ℕ) (speeds : List ℕ) : Type 0 where
  pub points : length speeds ≡ length gaps + 1
  pub planned : (i : ℕ) → i ≤ j → get_or speeds i 0 ≡ greatest gaps caps i
  pub held : (i : ℕ) → j < i → i ≤ length gaps → get_or speeds i 0 ≡ greatest_ahead gaps caps i

-- own is the last point between j and the end whose speed is its own cap, as far as the later ones go, or j if there is
-- none
pub record IsLastOwn (gaps caps : List ℕ) (j own : ℕ) : Type 0 where
  pub behind : j ≤ own
  pub before : own < length gaps
  pub itself : j < own → greatest_ahead gaps caps own ≡ get_or caps own 0
  pub last : (i : ℕ) → own < i → i < length gaps → greatest_ahead gaps caps i < get_or caps i 0

-- from point i on the speed rises by each gap up to point j, and no further
pub record RisesTo (gaps speeds : List ℕ) (i j : ℕ) : Type 0 where
  pub behind : i ≤ j
  pub before : j < length gaps
  pub rises : (k : ℕ) → i ≤ k → k < j → get_or speeds (k + 1) 0 ≡ get_or speeds k 0 + get_or gaps k 0
  pub stops : j + 1 < length gaps → get_or speeds (j + 1) 0 < get_or speeds j 0 + get_or gaps j 0

-- j is the last settled point before the end
pub record IsLastSettled (gaps caps : List ℕ) (j : ℕ) : Type 0 where
  pub before : j < length gaps
  pub settled : IsSettled gaps caps j
  pub last : (i : ℕ) → i < length gaps → IsSettled gaps caps i → i ≤ j
