-- Settled points: where they are, and how they stay.
use Rattle.std.proofs.Common.{◌≡◌, ℕ, zero, suc, ◌+◌, ◌-◌, ◌≤◌, ◌<◌, inl, inr, refl, arith, ap, sym, ◌∙◌, subst}
use Rattle.std.proofs.Common.{List, length, get_or}
use Rattle.std.proofs.lemmas.Bool.{cases_lt, cases_eq}
use Rattle.profile.specs.Profiles.{least, greatest, allowed_by}
use Rattle.profile.specs.Passes.{greatest_ahead}
use Rattle.profile.specs.Settled.{greatest_behind, IsSettled, IsPlannedTo, IsLastOwn, RisesTo, IsLastSettled}
use Rattle.profile.proofs.Leasts.{least_at, least_from}
use Rattle.profile.proofs.Passes.{ahead_is}
use Rattle.profile.proofs.Places.{allows, place_more, place_rising, greatest_le, greatest_at, greatest_smooth}

-- a cap up to point j holds its speed
abbrev pub IsHeldBehind : List ℕ → List ℕ → ℕ → Type 0
IsHeldBehind gaps caps j = (k : ℕ) × (k ≤ j) × (allows gaps caps j k ≡ greatest gaps caps j)

pub held_behind : (gaps caps : List ℕ) (j : ℕ) → IsSettled gaps caps j → IsHeldBehind gaps caps j
unfolding IsSettled greatest_behind allowed_by
held_behind gaps caps j is = let at = least_at (allowed_by gaps caps j) j in (at.0, at.1, at.2 ∙ sym is)

pub settled_by : (gaps caps : List ℕ) (j : ℕ) → j ≤ length gaps → IsHeldBehind gaps caps j → IsSettled gaps caps j
unfolding IsSettled greatest_behind allowed_by
settled_by gaps caps j h at = least_from (allowed_by gaps caps j) j (greatest gaps caps j) (record {
  below = λ k _ u. greatest_le gaps caps j k (omega (arith, u, h));
  reached = (at.0, omega arith, at.1, at.2);
})

-- no block stands
pub settled_none : (gaps caps : List ℕ) → length gaps ≡ 0 → IsSettled gaps caps 0
unfolding IsSettled greatest greatest_behind
settled_none gaps caps e = ap (least (allowed_by gaps caps 0)) e

-- a point that its own cap holds against the later ones
pub settled_own : (gaps caps : List ℕ) (j : ℕ) → j ≤ length gaps → greatest_ahead gaps caps j ≡ get_or caps j 0 → IsSettled gaps caps j
settled_own gaps caps j h own =
    let at = greatest_at gaps caps j in
    let le = greatest_le gaps caps j j h in
    settled_by gaps caps j h (elim (cases_lt j at.0) [
      | inr m ↦ (at.0, m, at.2)
      | inl m ↦
          let ahead = (ahead_is gaps caps j h).below at.0 (omega (arith, m)) at.1 in
          (j, omega arith, omega (arith, ahead, le, at.2, own))
    ])

-- a point to which the speed rises from a settled one
pub settled_risen : (gaps caps : List ℕ) (j : ℕ) → j < length gaps → IsSettled gaps caps j
    → greatest gaps caps (j + 1) ≡ greatest gaps caps j + get_or gaps j 0 → IsSettled gaps caps (j + 1)
settled_risen gaps caps j h is rises =
    let at = held_behind gaps caps j is in
    let more = place_more gaps j in
    let up = place_rising gaps at.0 j at.1 in
    settled_by gaps caps (j + 1) (omega arith) (at.0, omega (arith, at.1), omega (arith, at.2, more, up, rises))

pub settled_on : (gaps caps : List ℕ) (i n : ℕ) → i + n ≤ length gaps
    → ((k : ℕ) → i ≤ k → k < i + n → greatest gaps caps (k + 1) ≡ greatest gaps caps k + get_or gaps k 0)
    → IsSettled gaps caps i → IsSettled gaps caps (i + n)
settled_on gaps caps i zero h rises is = let e : i ≡ i + zero = omega arith in subst (IsSettled gaps caps) e is
settled_on gaps caps i (suc n) h rises is =
    let e : i + n + 1 ≡ i + suc n = omega arith in
    let was = settled_on gaps caps i n (omega arith) (λ k l u. rises k l (omega arith)) is in
    subst (IsSettled gaps caps) e (settled_risen gaps caps (i + n) (omega arith) was (rises (i + n) (omega arith) (omega arith)))

-- a settled point that its own cap does not hold: the speed rises to it from a settled one
pub settled_back : (gaps caps : List ℕ) (j : ℕ) → j < length gaps → IsSettled gaps caps (j + 1)
    → greatest_ahead gaps caps (j + 1) < get_or caps (j + 1) 0
    → IsSettled gaps caps j × (greatest gaps caps (j + 1) ≡ greatest gaps caps j + get_or gaps j 0)
settled_back gaps caps j h is other =
    let at = held_behind gaps caps (j + 1) is in
    let more = place_more gaps j in
    let smooth = greatest_smooth gaps caps j in
    elim (cases_lt at.0 (j + 1)) [
      | inl m ↦
          let up = place_rising gaps at.0 j (omega arith) in
          let le = greatest_le gaps caps j at.0 (omega arith) in (
            settled_by gaps caps j (omega arith) (at.0, omega arith, omega (arith, at.2, more, up, le, smooth)),
            omega (arith, at.2, more, up, le, smooth),
          )
      | inr m ↦
          let here : j + 1 ≡ at.0 = omega (arith, at.1, m) in
          let cap : allows gaps caps (j + 1) (j + 1) ≡ greatest gaps caps (j + 1) =
          subst (λ k. allows gaps caps (j + 1) k ≡ greatest gaps caps (j + 1)) (sym here) at.2 in
          let ahead = (ahead_is gaps caps (j + 1) (omega arith)).reached in
          let le = greatest_le gaps caps (j + 1) ahead.0 ahead.2 in
          absurd (omega (arith, cap, le, ahead.3, other))
    ]

-- down to the point behind where the speed stops rising
settled_down : (gaps caps : List ℕ) (j n : ℕ) → j + n < length gaps
    → ((i : ℕ) → j < i → i < length gaps → greatest_ahead gaps caps i < get_or caps i 0)
    → IsSettled gaps caps (j + n) → 0 < n → IsSettled gaps caps j × (greatest gaps caps (j + 1) ≡ greatest gaps caps j + get_or gaps j 0)
settled_down gaps caps j zero h other is some = absurd (omega arith)
settled_down gaps caps j (suc n) h other is some =
    let e : j + suc n ≡ j + n + 1 = omega arith in
    let one = settled_back gaps caps (j + n) (omega arith) (subst (IsSettled gaps caps) e is) (other (j + n + 1) (omega arith) (omega arith)) in
    elim (cases_eq n 0) [
      | inr more ↦ settled_down gaps caps j n (omega arith) other one.0 (omega arith)
      | inl none ↦
          let z : j + n ≡ j = omega arith in
          subst (λ j. IsSettled gaps caps j × (greatest gaps caps (j + 1) ≡ greatest gaps caps j + get_or gaps j 0)) z one
    ]

-- the last settled point
pub last_settled : (gaps caps speeds : List ℕ) (from own j : ℕ) → ((i : ℕ) → i ≤ length gaps → get_or speeds i 0 ≡ greatest gaps caps i)
    → IsLastOwn gaps caps from own → RisesTo gaps speeds own j → IsSettled gaps caps from → IsLastSettled gaps caps j
last_settled gaps caps speeds from own j at is rises start =
    let begun : IsSettled gaps caps own = elim (cases_lt from own) [
      | inl m ↦ settled_own gaps caps own (omega (arith, is.before)) (is.itself m)
      | inr m ↦ let e : from ≡ own = omega (arith, m, is.behind) in subst (IsSettled gaps caps) e start
    ] in
    let on : own + (j - own) ≡ j = omega (arith, rises.behind) in
    record {
      before = rises.before;
      settled = subst (IsSettled gaps caps) on (settled_on gaps caps own (j - own) (omega (arith, rises.before, rises.behind))
          (λ k l u.
          let here = at k (omega (arith, u, rises.before, rises.behind)) in
          let next = at (k + 1) (omega (arith, u, rises.before, rises.behind)) in
          let up = rises.rises k l (omega (arith, u, rises.behind)) in
          omega (arith, here, next, up)) begun);
      last = λ i h settled. elim (cases_lt j i) [
        | inr m ↦ m
        | inl m ↦
            let e : i ≡ j + (i - j) = omega arith in
            let down = settled_down gaps caps j (i - j) (omega arith)
            (λ k l u. is.last k (omega (arith, l, rises.behind)) u) (subst (IsSettled gaps caps) e settled) (omega arith) in
            let stop = rises.stops (omega arith) in
            let here = at j (omega (arith, rises.before)) in
            let next = at (j + 1) (omega (arith, m, h)) in
            absurd (omega (arith, down.1, stop, here, next))
      ];
    }

-- the caps of a plan that stands still at first
pub still_first : (gaps caps : List ℕ) → length caps ≡ length gaps + 1 → get_or caps 0 0 ≡ 0 → (cs : List ℕ) × IsPlannedTo gaps cs 0 caps
still_first gaps caps size still =
    let le = greatest_le gaps caps 0 0 (omega arith) in
    let here : get_or caps 0 0 ≡ greatest gaps caps 0 = omega (arith, le, still) in (
      caps,
      record {
        points = size;
        planned = λ i h. let z : 0 ≡ i = omega (arith, h) in subst (λ i. get_or caps i 0 ≡ greatest gaps caps i) z here;
        left = λ i l u. refl;
      },
    )
