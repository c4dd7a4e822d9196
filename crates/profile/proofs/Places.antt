-- Places, and the laws of the greatest speeds.
use Rattle.std.proofs.Common.{◌≡◌, ℕ, zero, suc, ◌+◌, ◌-◌, ◌≤◌, inl, inr, refl, arith, ap, subst, List, [], ◌∷◌, ◌++◌}
use Rattle.std.proofs.Common.{length, get_or, take, add-one}
use Rattle.std.proofs.lemmas.Bool.{cases_lt}
use Rattle.std.proofs.Math.Nat.{le_antisymm}
use Rattle.std.proofs.lemmas.List.{take_all, take-append-le, get_or_past}
use Rattle.std.proofs.lemmas.List.Sums.{sum_by_more, sum_by-cons}
use Rattle.std.proofs.lemmas.List.FromFn.{get_or-map-range_with_len, length-map-range_with_len}
use Rattle.std.specs.List.{sum}
use Rattle.profile.specs.Profiles.{distance, place, allowed_by, greatest, profile, IsWithinLimits}
use Rattle.profile.proofs.Leasts.{IsLeast, least_le, least_at, least_is, least_from}

pub place_none : (gaps : List ℕ) → place gaps 0 ≡ 0
unfolding place
place_none gaps = refl

pub place_more : (gaps : List ℕ) (j : ℕ) → place gaps (j + 1) ≡ place gaps j + get_or gaps j 0
unfolding place
place_more gaps j =
    elim (cases_lt j (length gaps)) [
      | inl h ↦ sum_by_more (λ x. x) gaps j 0 h
      | inr h ↦ rw (take_all (j + 1) gaps (omega arith), take_all j gaps h, get_or_past gaps j 0 h) (omega arith)
    ]

pub place_all : (gaps : List ℕ) (j : ℕ) → length gaps ≤ j → place gaps j ≡ sum gaps
unfolding place
place_all gaps j h = ap sum (take_all j gaps h)

pub place-cons : (g : ℕ) (gaps : List ℕ) (j : ℕ) → place (g ∷ gaps) (j + 1) ≡ g + place gaps j
unfolding place
place-cons g gaps j = rw add-one (sum_by-cons (λ x. x) g (take j gaps))

pub place-push : (g : ℕ) (gaps : List ℕ) (j : ℕ) → j ≤ length gaps → place (gaps ++ g ∷ []) j ≡ place gaps j
unfolding place
place-push g gaps j h = ap sum (take-append-le j gaps (g ∷ []) h)

place_up : (gaps : List ℕ) (i n : ℕ) → place gaps i ≤ place gaps (i + n)
place_up gaps i zero = let e : i ≡ i + zero = omega arith in subst (λ k. place gaps i ≤ place gaps k) e (omega arith)
place_up gaps i (suc n) =
    let was = place_up gaps i n in
    let more = place_more gaps (i + n) in
    let e : i + n + 1 ≡ i + suc n = omega arith in
    subst (λ k. place gaps i ≤ place gaps k) e (omega arith)

pub place_rising : (gaps : List ℕ) (i j : ℕ) → i ≤ j → place gaps i ≤ place gaps j
place_rising gaps i j h =
    let e : i + (j - i) ≡ j = omega arith in
    subst (λ k. place gaps i ≤ place gaps k) e (place_up gaps i (j - i))

pub place_le : (gaps : List ℕ) (j : ℕ) → place gaps j ≤ sum gaps
place_le gaps j =
    let up = place_rising gaps j (j + length gaps) (omega arith) in
    let all = place_all gaps (j + length gaps) (omega arith) in
    omega (arith, up, all)

-- what the cap of point k allows at point j
abbrev pub allows : List ℕ → List ℕ → ℕ → ℕ → ℕ
allows gaps caps j k = get_or caps k 0 + distance (place gaps k) (place gaps j)

-- the greatest speed, as the least of what the caps allow
pub greatest_is : (gaps caps : List ℕ) (j : ℕ) → IsLeast (allows gaps caps j) 0 (length gaps) (greatest gaps caps j)
unfolding greatest allowed_by
greatest_is gaps caps j = least_is (allowed_by gaps caps j) (length gaps)

pub greatest_from : (gaps caps : List ℕ) (j v : ℕ) → IsLeast (allows gaps caps j) 0 (length gaps) v → v ≡ greatest gaps caps j
unfolding greatest allowed_by
greatest_from gaps caps j v is = least_from (allowed_by gaps caps j) (length gaps) v is

pub greatest_le : (gaps caps : List ℕ) (j k : ℕ) → k ≤ length gaps → greatest gaps caps j ≤ allows gaps caps j k
unfolding greatest allowed_by
greatest_le gaps caps j k h = least_le (allowed_by gaps caps j) (length gaps) k h

pub greatest_at : (gaps caps : List ℕ) (j : ℕ) → (k : ℕ) × (k ≤ length gaps) × (allows gaps caps j k ≡ greatest gaps caps j)
unfolding greatest allowed_by
greatest_at gaps caps j = least_at (allowed_by gaps caps j) (length gaps)

-- the speeds at two points differ by no more than lies between them
pub greatest_near : (gaps caps : List ℕ) (i j : ℕ) → greatest gaps caps j ≤ greatest gaps caps i + distance (place gaps i) (place gaps j)
greatest_near gaps caps i j =
    let at = greatest_at gaps caps i in
    let le = greatest_le gaps caps j at.0 at.1 in
    omega (arith, le, at.2)

pub greatest_smooth : (gaps caps : List ℕ) (j : ℕ) → distance (greatest gaps caps j) (greatest gaps caps (j + 1)) ≤ get_or gaps j 0
greatest_smooth gaps caps j =
    let more = place_more gaps j in
    let on = greatest_near gaps caps j (j + 1) in
    let back = greatest_near gaps caps (j + 1) j in
    omega (arith, more, on, back)

-- at the first point the greatest speed is that point's own cap, where no other cap stands in the way
pub greatest_first : (gaps caps : List ℕ) → ((k : ℕ) → k ≤ length gaps → get_or caps 0 0 ≤ get_or caps k 0 + place gaps k)
    → greatest gaps caps 0 ≡ get_or caps 0 0
greatest_first gaps caps h =
    let at = greatest_at gaps caps 0 in
    let le = greatest_le gaps caps 0 0 (omega arith) in
    let ge = h at.0 at.1 in
    let none = place_none gaps in
    le_antisymm (omega (arith, le, none)) (omega (arith, ge, at.2, none))

pub profile_at : (gaps caps : List ℕ) (j : ℕ) → j ≤ length gaps → get_or (profile gaps caps) j 0 ≡ greatest gaps caps j
unfolding profile
profile_at gaps caps j h =
    get_or-map-range_with_len (greatest gaps caps) 0 (length gaps + 1) j j 0 (omega arith) (omega arith)

pub length-profile : (gaps caps : List ℕ) → length (profile gaps caps) ≡ length gaps + 1
unfolding profile
length-profile gaps caps = length-map-range_with_len (greatest gaps caps) 0 (length gaps + 1)

pub profile_within : (gaps caps : List ℕ) → IsWithinLimits gaps caps (profile gaps caps)
profile_within gaps caps = record {
  points = length-profile gaps caps;
  capped = λ j h. rw (profile_at gaps caps j h) (let le = greatest_le gaps caps j j h in omega (arith, le));
  smooth = λ j h.
      rw (profile_at gaps caps j (omega arith), profile_at gaps caps (j + 1) (omega arith)) (greatest_smooth gaps caps j);
}

-- speeds within the limits differ at two points by no more than lies between them
abbrev AreNear : List ℕ → List ℕ → ℕ → ℕ → Type 0
AreNear gaps speeds i j = distance (get_or speeds i 0) (get_or speeds j 0) ≤ place gaps j - place gaps i

apart : (gaps caps speeds : List ℕ) → IsWithinLimits gaps caps speeds → (i n : ℕ) → i + n ≤ length gaps → AreNear gaps speeds i (i + n)
apart gaps caps speeds is i zero h = let e : i ≡ i + zero = omega arith in subst (AreNear gaps speeds i) e (omega arith)
apart gaps caps speeds is i (suc n) h =
    let was = apart gaps caps speeds is i n (omega arith) in
    let step = is.smooth (i + n) (omega arith) in
    let more = place_more gaps (i + n) in
    let up = place_rising gaps i (i + n) (omega arith) in
    let e : i + n + 1 ≡ i + suc n = omega arith in
    subst (AreNear gaps speeds i) e (omega (arith, was, step, more, up))

within_apart : (gaps caps speeds : List ℕ) → IsWithinLimits gaps caps speeds → (i j : ℕ) → i ≤ j → j ≤ length gaps → AreNear gaps speeds i j
within_apart gaps caps speeds is i j h u =
    let e : i + (j - i) ≡ j = omega arith in
    subst (AreNear gaps speeds i) e (apart gaps caps speeds is i (j - i) (omega arith))

pub greatest_of_all : (gaps caps speeds : List ℕ) → IsWithinLimits gaps caps speeds
    → (j : ℕ) → j ≤ length gaps → get_or speeds j 0 ≤ greatest gaps caps j
greatest_of_all gaps caps speeds is j h =
    let at = greatest_at gaps caps j in
    let capped = is.capped at.0 at.1 in
    elim (cases_lt j at.0) [
      | inl m ↦ let near = within_apart gaps caps speeds is j at.0 (omega arith) at.1 in omega (arith, at.2, capped, near)
      | inr m ↦ let near = within_apart gaps caps speeds is at.0 j m h in omega (arith, at.2, capped, near)
    ]
