-- What the two passes keep.
use Rattle.std.proofs.Common.{◌≡◌, ◌≢◌, ℕ, ◌+◌, ◌-◌, ◌≤◌, ◌<◌, min, max, inl, inr, refl, arith, ap, sym, ◌∙◌, subst}
use Rattle.std.proofs.Common.{List, length, get_or, set, length-set, get_or-set_same, get_or-set_other}
use Rattle.std.proofs.lemmas.Bool.{cases_lt, cases_eq}
use Rattle.std.proofs.lemmas.Grind.{same_number_lists}
use Rattle.profile.specs.Profiles.{place, greatest, profile, allowed_by}
use Rattle.profile.specs.Passes.{greatest_ahead}
use Rattle.profile.specs.Settled.{IsPlannedTo, IsHeldTo, IsLastOwn}
use Rattle.profile.proofs.Leasts.{IsLeast, least_is, least_from, back_last, back_step, forward_step}
use Rattle.profile.proofs.Places.{allows, place_more, place_rising, greatest_is, greatest_from, profile_at, length-profile}

-- v is the least that the caps of point j and the later ones allow at point j
abbrev pub IsHeldBack : List ℕ → List ℕ → ℕ → ℕ → Type 0
IsHeldBack gaps caps j v = IsLeast (allows gaps caps j) j (length gaps) v

-- it is the greatest speed ahead
pub ahead_from : (gaps caps : List ℕ) (j v : ℕ) → j ≤ length gaps → IsHeldBack gaps caps j v → v ≡ greatest_ahead gaps caps j
unfolding greatest_ahead allowed_by
ahead_from gaps caps j v h is =
    let at = is.reached in
    let e : at.0 ≡ j + (at.0 - j) = omega (arith, at.1) in
    least_from (λ i. allowed_by gaps caps j (j + i)) (length gaps - j) v (record {
      below = λ i _ u. is.below (j + i) (omega arith) (omega arith);
      reached = (at.0 - j, omega arith, omega (arith, at.1, at.2), subst (λ k. allows gaps caps j k ≡ v) e at.3);
    })

pub ahead_is : (gaps caps : List ℕ) (j : ℕ) → j ≤ length gaps → IsHeldBack gaps caps j (greatest_ahead gaps caps j)
unfolding greatest_ahead allowed_by
ahead_is gaps caps j h =
    let is = least_is (λ i. allowed_by gaps caps j (j + i)) (length gaps - j) in
    let at = is.reached in
    record {
      below = λ k l u.
          let e : j + (k - j) ≡ k = omega arith in
          subst (λ k. greatest_ahead gaps caps j ≤ allows gaps caps j k) e (is.below (k - j) (omega arith) (omega arith));
      reached = (j + at.0, omega arith, omega (arith, at.2), at.3);
    }

-- the backward pass, down to point j, and the last point that its own cap holds
pub record IsBackTo (gaps caps : List ℕ) (from j own : ℕ) (speeds : List ℕ) : Type 0 where
  pub points : length speeds ≡ length gaps + 1
  pub planned : (i : ℕ) → i ≤ from → get_or speeds i 0 ≡ greatest gaps caps i
  pub left : (i : ℕ) → from < i → i < j → get_or speeds i 0 ≡ get_or caps i 0
  pub held : (i : ℕ) → j ≤ i → i ≤ length gaps → IsHeldBack gaps caps i (get_or speeds i 0)
  pub behind : from ≤ own
  pub before : own < length gaps
  pub itself : from < own → (j ≤ own) × (get_or speeds own 0 ≡ get_or caps own 0)
  pub last : (i : ℕ) → own < i → j ≤ i → i < length gaps → get_or speeds i 0 < get_or caps i 0

pub back_starts : (gaps caps speeds : List ℕ) (from : ℕ) → IsPlannedTo gaps caps from speeds → from < length gaps
    → IsBackTo gaps caps from (length gaps) from speeds
back_starts gaps caps speeds from is h = record {
  points = is.points;
  planned = is.planned;
  left = λ i l u. is.left i l (omega arith);
  held = λ i l u.
      let e : length gaps ≡ i = omega arith in
      let last = back_last (λ k. get_or caps k 0) (place gaps) (length gaps) (place_rising gaps) in
      let at = is.left (length gaps) h (omega arith) in
      subst (λ j. IsHeldBack gaps caps j (get_or speeds j 0)) e (subst (IsHeldBack gaps caps (length gaps)) (sym at) last);
  behind = omega arith;
  before = h;
  itself = λ l. absurd (omega (arith, l));
  last = λ i l m u. absurd (omega (arith, m, u));
}

pub back_on : (gaps caps speeds : List ℕ) (from j own v own' : ℕ) → IsBackTo gaps caps from (j + 1) own speeds → from < j → j < length gaps
    → v ≡ min (get_or speeds j 0) (get_or speeds (j + 1) 0 + get_or gaps j 0)
    → (v ≡ get_or speeds j 0 → own' ≡ max own j) → (v ≢ get_or speeds j 0 → own' ≡ own) → IsBackTo gaps caps from j own' (set speeds j v)
back_on gaps caps speeds from j own v own' is f h e mine other =
    let inside : j < length speeds = omega (arith, is.points) in
    let next = get_or speeds (j + 1) 0 in
    let gap = get_or gaps j 0 in
    let here = back_step (λ k. get_or caps k 0) (place gaps) (length gaps) (place_rising gaps) j gap next h (place_more gaps j)
    (is.held (j + 1) (omega arith) (omega arith)) in
    let own_cap = is.left j f (omega arith) in
    let now : v ≡ get_or (set speeds j v) j 0 = rw get_or-set_same refl in
    let same : min (get_or caps j 0) (next + gap) ≡ get_or (set speeds j v) j 0 =
    rw get_or-set_same (sym (e ∙ ap (λ c. min c (next + gap)) own_cap)) in
    let stays : (i : ℕ) → i ≢ j → get_or (set speeds j v) i 0 ≡ get_or speeds i 0 =
    λ i ne. get_or-set_other speeds j i v 0 ne in
    let was_own : from < own → j + 1 ≤ own = λ l. (is.itself l).0 in
    record {
      points = length-set speeds j v ∙ is.points;
      planned = λ i l. stays i (omega arith) ∙ is.planned i l;
      left = λ i l u. stays i (omega arith) ∙ is.left i l (omega arith);
      held = λ i l u. elim (cases_lt j i) [
        | inl m ↦ subst (IsHeldBack gaps caps i) (sym (stays i (omega arith))) (is.held i (omega arith) u)
        | inr m ↦
            let at : j ≡ i = omega arith in
            subst (λ i. IsHeldBack gaps caps i (get_or (set speeds j v) i 0)) at (subst (IsHeldBack gaps caps j) same here)
      ];
      behind = elim (cases_eq v (get_or speeds j 0)) [
        | inl y ↦ let o = mine y in omega (arith, o, is.behind)
        | inr n ↦ let o = other n in omega (arith, o, is.behind)
      ];
      before = elim (cases_eq v (get_or speeds j 0)) [
        | inl y ↦ let o = mine y in omega (arith, o, is.before, h)
        | inr n ↦ let o = other n in omega (arith, o, is.before)
      ];
      itself = λ l. elim (cases_lt from own) [
        | inl m ↦
            let at = is.itself m in
            let o : own' ≡ own = elim (cases_eq v (get_or speeds j 0)) [
              | inl y ↦ let o = mine y in omega (arith, o, at.0)
              | inr n ↦ other n
            ] in
            subst (λ k. (j ≤ k) × (get_or (set speeds j v) k 0 ≡ get_or caps k 0)) (sym o)
            (omega (arith, at.0), stays own (omega (arith, at.0)) ∙ at.1)
        | inr m ↦ elim (cases_eq v (get_or speeds j 0)) [
          | inl y ↦
              let o : own' ≡ j = let o = mine y in omega (arith, o, m, f) in
              subst (λ k. (j ≤ k) × (get_or (set speeds j v) k 0 ≡ get_or caps k 0)) (sym o)
              (omega arith, sym now ∙ y ∙ own_cap)
          | inr n ↦ let o = other n in absurd (omega (arith, o, m, l))
        ]
      ];
      last = λ i l m u. elim (cases_lt j i) [
        | inl n ↦
            let less : own < i = elim (cases_eq v (get_or speeds j 0)) [
              | inl y ↦ let o = mine y in omega (arith, o, l)
              | inr ne ↦ let o = other ne in omega (arith, o, l)
            ] in
            subst (λ s. s < get_or caps i 0) (sym (stays i (omega arith))) (is.last i less (omega arith) u)
        | inr n ↦
            let at : j ≡ i = omega arith in
            elim (cases_eq v (get_or speeds j 0)) [
              | inl y ↦ let o = mine y in absurd (omega (arith, o, l, at))
              | inr ne ↦ subst (λ i. get_or (set speeds j v) i 0 < get_or caps i 0) at
                  (omega (arith, now, e, own_cap, ne))
            ]
      ];
    }

pub back_ends : (gaps caps speeds : List ℕ) (from own : ℕ) → IsBackTo gaps caps from (from + 1) own speeds → IsHeldTo gaps caps from speeds
back_ends gaps caps speeds from own is = record {
  points = is.points;
  planned = is.planned;
  held = λ i l u. ahead_from gaps caps i (get_or speeds i 0) u (is.held i (omega arith) u);
}

pub back_own : (gaps caps speeds : List ℕ) (from own : ℕ) → IsBackTo gaps caps from (from + 1) own speeds → IsLastOwn gaps caps from own
back_own gaps caps speeds from own is =
    let at : (i : ℕ) → from < i → i ≤ length gaps → get_or speeds i 0 ≡ greatest_ahead gaps caps i =
    (back_ends gaps caps speeds from own is).held in
    record {
      behind = is.behind;
      before = is.before;
      itself = λ l. sym (at own l (omega (arith, is.before))) ∙ (is.itself l).1;
      last = λ i l u. subst (λ s. s < get_or caps i 0) (at i (omega (arith, is.behind)) (omega arith)) (is.last i l (omega (arith, is.behind)) u);
    }

pub forward_on : (gaps caps speeds : List ℕ) (j v : ℕ) → IsHeldTo gaps caps j speeds → j < length gaps
    → v ≡ min (get_or speeds (j + 1) 0) (get_or speeds j 0 + get_or gaps j 0)
    → IsHeldTo gaps caps (j + 1) (set speeds (j + 1) v)
forward_on gaps caps speeds j v is h e =
    let inside : j + 1 < length speeds = omega (arith, is.points) in
    let next = get_or speeds (j + 1) 0 in
    let gap = get_or gaps j 0 in
    let before = greatest gaps caps j in
    let ahead : IsHeldBack gaps caps (j + 1) next =
    subst (IsHeldBack gaps caps (j + 1)) (sym (is.held (j + 1) (omega arith) (omega arith))) (ahead_is gaps caps (j + 1) (omega arith)) in
    let here = forward_step (λ k. get_or caps k 0) (place gaps) (length gaps) (place_rising gaps) j gap before next h (place_more gaps j)
    (greatest_is gaps caps j) ahead in
    let value : v ≡ greatest gaps caps (j + 1) =
    e ∙ ap (λ s. min next (s + gap)) (is.planned j (omega arith)) ∙ greatest_from gaps caps (j + 1) _ here in
    let same : get_or (set speeds (j + 1) v) (j + 1) 0 ≡ greatest gaps caps (j + 1) = rw get_or-set_same value in
    record {
      points = length-set speeds (j + 1) v ∙ is.points;
      planned = λ i l. elim (cases_lt j i) [
        | inr m ↦ get_or-set_other speeds (j + 1) i v 0 (omega arith) ∙ is.planned i m
        | inl m ↦
            let at : j + 1 ≡ i = omega arith in
            subst (λ i. get_or (set speeds (j + 1) v) i 0 ≡ greatest gaps caps i) at same
      ];
      held = λ i l u. get_or-set_other speeds (j + 1) i v 0 (omega arith) ∙ is.held i (omega arith) u;
    }

pub forward_ends : (gaps caps speeds : List ℕ) → IsHeldTo gaps caps (length gaps) speeds → speeds ≡ profile gaps caps
forward_ends gaps caps speeds is =
    same_number_lists speeds (profile gaps caps) (is.points ∙ sym (length-profile gaps caps))
    (λ k l.
    let inside : k ≤ length gaps = omega (arith, is.points) in
    is.planned k inside ∙ sym (profile_at gaps caps k inside))
