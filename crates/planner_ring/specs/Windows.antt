-- The slots of a ring that are in use, from one place up to another, round the end.
use Rattle.std.specs.Prelude.{◌≡◌, ℕ, ◌+◌, ◌-◌, ◌<◌, ◌≤◌, cond, nat_le, List, length, take}
pub use Rattle.units.specs.Windows.{window}

-- how many slots lie from the place k up to the place f, of N
abbrev pub stretch : ℕ → ℕ → ℕ → ℕ
stretch N k f = cond (nat_le k f) (f - k) (f + N - k)

-- the slots from the place k up to the place f
abbrev pub between : {X : Type 0} → ℕ → ℕ → ℕ → List X → List X
between N k f xs = window k (stretch N k f) xs

-- two places among N slots
pub record IsRing {X : Type 0} (N k f : ℕ) (xs : List X) : Type 0 where
  pub some : 2 ≤ N
  pub few : N ≤ 64
  pub first : k < N
  pub free : f < N
  pub slots : length xs ≡ N

-- two places among the first N of 64 slots
pub record HasRing {X : Type 0} (N k f : ℕ) (xs : List X) : Type 0 where
  pub all : length xs ≡ 64
  pub ring : IsRing N k f (take N xs)
