-- How settled points stay while a plan goes on, and what an added block leaves as it is.
use Rattle.std.proofs.Common.{◌≡◌, ℕ, ◌+◌, ◌-◌, ◌*◌, ◌≤◌, ◌<◌, inl, inr, arith, sym, ◌∙◌, subst}
use Rattle.std.proofs.Common.{List, [], ◌∷◌, ◌++◌, length, get_or}
use Rattle.std.proofs.lemmas.Bool.{cases_lt, cases_eq}
use Rattle.std.proofs.lemmas.List.{get_or_append_left, length_push}
use Rattle.profile.specs.Profiles.{place, distance, greatest}
use Rattle.profile.specs.Caps.{IsSofter, caps, planned}
use Rattle.profile.specs.Slowing.{IsSlowable}
use Rattle.profile.specs.Settled.{IsSettled}
use Rattle.profile.proofs.Places.{allows, place-push, place_rising, greatest_le, greatest_at, greatest_from}
use Rattle.profile.proofs.Caps.{caps_first, caps_inner, caps_last}
use Rattle.profile.proofs.Slowing.{planned_first}
use Rattle.profile.proofs.Kept.{split, kept, kept_at, drop_at, dropped_keeps}
use Rattle.profile.proofs.Settled.{held_behind, settled_by}

-- the present place is settled
pub settled_first : (w : ℕ) (gaps hards softs : List ℕ) → length gaps ≡ length hards + 1 → IsSofter softs hards → IsSlowable w gaps hards
    → IsSettled gaps (caps w gaps softs) 0
unfolding planned
settled_first w gaps hards softs many soft is =
    let first = planned_first w gaps softs hards many is soft in
    let cap = caps_first w gaps softs in
    settled_by gaps (caps w gaps softs) 0 (omega arith) (0, omega arith, omega (arith, cap, first))

module _ (w g s : ℕ) (gaps softs : List ℕ) (many : length gaps ≡ length softs + 1) (j : ℕ) (inside : j < length gaps)
    (is : IsSettled gaps (caps w gaps softs) j) where
  -- the caps in front of the old end
  added_cap : (k : ℕ) → k < length gaps
      → get_or (caps w (gaps ++ g ∷ []) (softs ++ s ∷ [])) k 0 ≡ get_or (caps w gaps softs) k 0
  added_cap k h = elim (cases_eq k 0) [
    | inl z ↦
        let both = caps_first w (gaps ++ g ∷ []) (softs ++ s ∷ []) ∙ sym (caps_first w gaps softs) in
        subst (λ k. get_or (caps w (gaps ++ g ∷ []) (softs ++ s ∷ [])) k 0 ≡ get_or (caps w gaps softs) k 0) (sym z) both
    | inr nz ↦
        let e : k - 1 + 1 ≡ k = omega arith in
        let longer = length_push softs s in
        let a = caps_inner w (gaps ++ g ∷ []) (softs ++ s ∷ []) (k - 1) (omega (arith, longer, h, many)) in
        let a' = caps_inner w gaps softs (k - 1) (omega (arith, h, many, nz)) in
        let soft = get_or_append_left softs (s ∷ []) 0 (k - 1) (omega (arith, h, many, nz)) in
        let at = place-push g gaps (k - 1 + 1) (omega (arith, h)) in
        subst (λ k. get_or (caps w (gaps ++ g ∷ []) (softs ++ s ∷ [])) k 0 ≡ get_or (caps w gaps softs) k 0) e
        (omega (arith, a, a', soft, at))
  ]

  -- what they allow
  added_allows : (i k : ℕ) → i ≤ length gaps → k < length gaps
      → allows (gaps ++ g ∷ []) (caps w (gaps ++ g ∷ []) (softs ++ s ∷ [])) i k ≡ allows gaps (caps w gaps softs) i k
  added_allows i k h l =
      let cap = added_cap k l in
      let here = place-push g gaps i h in
      let there = place-push g gaps k (omega (arith, l)) in
      omega (arith, cap, here, there)

  -- the old end allows what lies between
  end_allows : (i : ℕ) → allows gaps (caps w gaps softs) i (length gaps) ≡ distance (place gaps (length gaps)) (place gaps i)
  end_allows i =
      let last : get_or (caps w gaps softs) (length gaps) 0 ≡ 0 =
      subst (λ k. get_or (caps w gaps softs) k 0 ≡ 0) (sym many) (caps_last w gaps softs) in
      omega (arith, last)

  -- no cap holds a speed lower than before
  added_below : (i k : ℕ) → i ≤ j
      → greatest gaps (caps w gaps softs) i ≤ allows (gaps ++ g ∷ []) (caps w (gaps ++ g ∷ []) (softs ++ s ∷ [])) i k
  added_below i k h = elim (cases_lt k (length gaps)) [
    | inl m ↦
        let same = added_allows i k (omega (arith, h, inside)) m in
        let le = greatest_le gaps (caps w gaps softs) i k (omega (arith, m)) in
        omega (arith, same, le)
    | inr m ↦
        let le = greatest_le gaps (caps w gaps softs) i (length gaps) (omega arith) in
        let at = end_allows i in
        let up = place_rising (gaps ++ g ∷ []) (length gaps) k m in
        let down = place_rising gaps i (length gaps) (omega (arith, h, inside)) in
        let end = place-push g gaps (length gaps) (omega arith) in
        let here = place-push g gaps i (omega (arith, h, inside)) in
        omega (arith, le, at, up, down, end, here)
  ]

  -- a cap in front of the old end holds the speed
  held_before : (i : ℕ) → i ≤ j
      → (k : ℕ) × (k < length gaps) × (allows gaps (caps w gaps softs) i k ≡ greatest gaps (caps w gaps softs) i)
  held_before i h =
      let old = caps w gaps softs in
      let at = greatest_at gaps old i in
      elim (cases_lt at.0 (length gaps)) [
        | inl m ↦ (at.0, m, at.2)
        | inr m ↦
            let e : at.0 ≡ length gaps = omega (arith, at.1, m) in
            let far : allows gaps old i (length gaps) ≡ greatest gaps old i = subst (λ k. allows gaps old i k ≡ greatest gaps old i) e at.2 in
            let by = held_behind gaps old j is in
            let le = greatest_le gaps old j (length gaps) (omega arith) in
            let le' = greatest_le gaps old i by.0 (omega (arith, by.1, inside)) in
            let end = end_allows i in
            let end' = end_allows j in
            let p = place_rising gaps by.0 j by.1 in
            let p' = place_rising gaps i j h in
            let p'' = place_rising gaps j (length gaps) (omega (arith, inside)) in
            (by.0, omega (arith, by.1, inside), omega (arith, far, by.2, le, le', end, end', p, p', p''))
      ]

  -- an added block changes no speed at or before a settled point that was not the end
  pub added_keeps : (i : ℕ) → i ≤ j → planned w (gaps ++ g ∷ []) (softs ++ s ∷ []) i ≡ planned w gaps softs i
  unfolding planned
  added_keeps i h =
      let by = held_before i h in
      let longer = length_push gaps g in
      let same = added_allows i by.0 (omega (arith, h, inside)) by.1 in
      sym (greatest_from (gaps ++ g ∷ []) (caps w (gaps ++ g ∷ []) (softs ++ s ∷ [])) i (greatest gaps (caps w gaps softs) i) (record {
        below = λ k l u. added_below i k h;
        reached = (by.0, omega arith, omega (arith, by.1, longer), same ∙ by.2);
      }))

  -- and the point stays settled
  pub added_settled : IsSettled (gaps ++ g ∷ []) (caps w (gaps ++ g ∷ []) (softs ++ s ∷ [])) j
  unfolding planned
  added_settled =
      let by = held_behind gaps (caps w gaps softs) j is in
      let longer = length_push gaps g in
      let same = added_allows j by.0 (omega (arith, inside)) (omega (arith, by.1, inside)) in
      settled_by (gaps ++ g ∷ []) (caps w (gaps ++ g ∷ []) (softs ++ s ∷ [])) j (omega (arith, longer, inside))
      (by.0, by.1, same ∙ by.2 ∙ sym (added_keeps j (omega arith)))

-- n events change the speed from w to v, and the speed at the block's end stays within reach
pub settled_within_reach : (w v q n left : ℕ) (gaps softs : List ℕ) (i : ℕ) → length gaps ≡ length softs
    → distance w v ≤ q * n → distance v (planned w (q * (left + n) ∷ gaps) softs 1) ≤ q * left → i ≤ length gaps
    → IsSettled (q * (left + n) ∷ gaps) (caps w (q * (left + n) ∷ gaps) softs) (i + 1)
    → IsSettled (q * left ∷ gaps) (caps v (q * left ∷ gaps) softs) (i + 1)
unfolding planned
settled_within_reach w v q n left gaps softs i many small reach h is =
    let e = split q left n in
    let was : IsSettled ((q * left + q * n) ∷ gaps) (caps w ((q * left + q * n) ∷ gaps) softs) (i + 1) =
    subst (λ d. IsSettled (d ∷ gaps) (caps w (d ∷ gaps) softs) (i + 1)) (sym e) is in
    let reach' : distance v (planned w ((q * left + q * n) ∷ gaps) softs 1) ≤ q * left =
    subst (λ d. distance v (planned w (d ∷ gaps) softs 1) ≤ q * left) (sym e) reach in
    let by = held_behind ((q * left + q * n) ∷ gaps) (caps w ((q * left + q * n) ∷ gaps) softs) (i + 1) was in
    let now = kept_at w v (q * left) (q * n) gaps softs many small reach' i by.0 h (omega (arith, by.1, h)) by.2 in
    let same = kept w v (q * left) (q * n) gaps softs many small reach' i h in
    settled_by (q * left ∷ gaps) (caps v (q * left ∷ gaps) softs) (i + 1) (omega (arith, h)) (by.0, by.1, now ∙ sym same)

-- a tail of which nothing is left goes
pub settled_dropped : (v s : ℕ) (gaps softs : List ℕ) (j : ℕ) → length gaps ≡ length softs + 1 → j ≤ length gaps
    → IsSettled (0 ∷ gaps) (caps v (0 ∷ gaps) (s ∷ softs)) (j + 1) → IsSettled gaps (caps v gaps softs) j
unfolding planned
settled_dropped v s gaps softs j many h is =
    let by = held_behind (0 ∷ gaps) (caps v (0 ∷ gaps) (s ∷ softs)) (j + 1) is in
    let there = drop_at v s gaps softs j by.0 many h (omega (arith, by.1, h)) by.2 in
    let same = dropped_keeps v s gaps softs j many h in
    settled_by gaps (caps v gaps softs) j h (there.0, omega (arith, there.1, by.1), there.2 ∙ same)
