-- Which planned speeds stay while a plan goes on.
use Rattle.std.proofs.Common.{◌≡◌, ℕ, ◌+◌, ◌-◌, ◌*◌, ◌≤◌, ◌<◌, max, inl, inr, arith, sym, ◌∙◌, subst, List, ◌∷◌, length, get_or}
use Rattle.std.proofs.lemmas.Bool.{cases_lt, cases_eq}
use Rattle.profile.specs.Profiles.{place, distance, greatest}
use Rattle.profile.specs.Caps.{caps, planned}
use Rattle.profile.specs.Slowing.{speed_after}
use Rattle.profile.proofs.Places.{allows, place_none, place-cons, greatest_le, greatest_at, greatest_near, greatest_from}
use Rattle.profile.proofs.Caps.{caps_first, caps_inner, caps_last, get_or-cons}

-- the speed goes from w to v while the first gap shrinks from left + change to left, and the speed at the end of that gap
-- stays within reach
module _ (w v left change : ℕ) (gaps softs : List ℕ) (many : length gaps ≡ length softs) (small : distance w v ≤ change)
    (reach : distance v (planned w ((left + change) ∷ gaps) softs 1) ≤ left) where
  -- the caps behind the first point stay
  kept_caps : (k : ℕ) → k ≤ length softs
      → get_or (caps v (left ∷ gaps) softs) (k + 1) 0 ≡ get_or (caps w ((left + change) ∷ gaps) softs) (k + 1) 0
  unfolding planned
  kept_caps k h =
      let d = left + change in
      let old = caps w (d ∷ gaps) softs in
      elim (cases_lt k (length softs)) [
        | inr m ↦
            let last : k ≡ length softs = omega arith in
            let both = caps_last v (left ∷ gaps) softs ∙ sym (caps_last w (d ∷ gaps) softs) in
            subst (λ k. get_or (caps v (left ∷ gaps) softs) (k + 1) 0 ≡ get_or old (k + 1) 0) (sym last) both
        | inl m ↦
            let cap_old = caps_inner w (d ∷ gaps) softs k m in
            let cap_new = caps_inner v (left ∷ gaps) softs k m in
            let at_old = place-cons d gaps k in
            let at_new = place-cons left gaps k in
            let first = place-cons d gaps 0 in
            let none = place_none gaps in
            let exit = greatest_le (d ∷ gaps) old 1 (k + 1) (omega (arith, many)) in
            omega (arith, cap_old, cap_new, at_old, at_new, first, none, exit)
      ]

  -- the present point holds the speeds behind it no lower than they were
  kept_start : (i : ℕ) → planned w ((left + change) ∷ gaps) softs (i + 1) ≤ v + (left + place gaps i)
  unfolding planned
  kept_start i =
      let d = left + change in
      let at = place-cons d gaps i in
      let first = place-cons d gaps 0 in
      let none = place_none gaps in
      let on = greatest_near (d ∷ gaps) (caps w (d ∷ gaps) softs) 1 (i + 1) in
      omega (arith, at, first, none, on)

  -- what held a speed holds it as before
  pub kept_at : (i k : ℕ) → i ≤ length gaps → k ≤ length gaps + 1
      → allows ((left + change) ∷ gaps) (caps w ((left + change) ∷ gaps) softs) (i + 1) k ≡ planned w ((left + change) ∷ gaps) softs (i + 1)
      → allows (left ∷ gaps) (caps v (left ∷ gaps) softs) (i + 1) k ≡ planned w ((left + change) ∷ gaps) softs (i + 1)
  unfolding planned
  kept_at i k h u at =
      let d = left + change in
      let old = caps w (d ∷ gaps) softs in
      let new = caps v (left ∷ gaps) softs in
      let now = planned w (d ∷ gaps) softs (i + 1) in
      let here = place-cons d gaps i in
      let here' = place-cons left gaps i in
      elim (cases_eq k 0) [
        | inl z ↦
            let at_first : allows (d ∷ gaps) old (i + 1) 0 ≡ now =
            subst (λ k. allows (d ∷ gaps) old (i + 1) k ≡ now) z at in
            let cap = caps_first w (d ∷ gaps) softs in
            let cap' = caps_first v (left ∷ gaps) softs in
            let none = place_none (d ∷ gaps) in
            let none' = place_none (left ∷ gaps) in
            let start = kept_start i in
            subst (λ k. allows (left ∷ gaps) new (i + 1) k ≡ now) (sym z)
            (omega (arith, at_first, cap, cap', none, none', here, here', start))
        | inr nz ↦
            let s : k - 1 + 1 ≡ k = omega arith in
            let cap = kept_caps (k - 1) (omega (arith, many)) in
            let there = place-cons d gaps (k - 1) in
            let there' = place-cons left gaps (k - 1) in
            let was : allows (d ∷ gaps) old (i + 1) (k - 1 + 1) ≡ now =
            subst (λ k. allows (d ∷ gaps) old (i + 1) k ≡ now) (sym s) at in
            subst (λ k. allows (left ∷ gaps) new (i + 1) k ≡ now) s
            (omega (arith, cap, there, there', here, here', was))
      ]

  pub kept : (i : ℕ) → i ≤ length gaps → planned v (left ∷ gaps) softs (i + 1) ≡ planned w ((left + change) ∷ gaps) softs (i + 1)
  unfolding planned
  kept i h =
      let d = left + change in
      let old = caps w (d ∷ gaps) softs in
      let new = caps v (left ∷ gaps) softs in
      let now = greatest (d ∷ gaps) old (i + 1) in
      let at = greatest_at (d ∷ gaps) old (i + 1) in
      let here = place-cons d gaps i in
      let here' = place-cons left gaps i in
      sym (greatest_from (left ∷ gaps) new (i + 1) now (record {
        below = λ k l u. elim (cases_eq k 0) [
          | inl z ↦
              let cap' = caps_first v (left ∷ gaps) softs in
              let none' = place_none (left ∷ gaps) in
              let start = kept_start i in
              subst (λ k. now ≤ allows (left ∷ gaps) new (i + 1) k) (sym z) (omega (arith, cap', none', here', start))
          | inr nz ↦
              let s : k - 1 + 1 ≡ k = omega arith in
              subst (λ k. now ≤ allows (left ∷ gaps) new (i + 1) k) s
              (let cap = kept_caps (k - 1) (omega (arith, many)) in
              let there = place-cons d gaps (k - 1) in
              let there' = place-cons left gaps (k - 1) in
              let le = greatest_le (d ∷ gaps) old (i + 1) (k - 1 + 1) (omega arith) in
              omega (arith, cap, there, there', here, here', le))
        ];
        reached = (at.0, omega arith, omega (arith, at.1), kept_at i at.0 h (omega (arith, at.1)) at.2);
      }))

pub split : (q left n : ℕ) → q * left + q * n ≡ q * (left + n)
split q left n = grind arith

-- n events change the speed from w to v, and the speed at the block's end stays within reach
pub kept_within_reach : (w v q n left : ℕ) (gaps softs : List ℕ) (i : ℕ) → length gaps ≡ length softs
    → distance w v ≤ q * n → distance v (planned w (q * (left + n) ∷ gaps) softs 1) ≤ q * left → i ≤ length gaps
    → planned v (q * left ∷ gaps) softs (i + 1) ≡ planned w (q * (left + n) ∷ gaps) softs (i + 1)
kept_within_reach w v q n left gaps softs i many small reach h =
    let e = split q left n in
    let reach' : distance v (planned w ((q * left + q * n) ∷ gaps) softs 1) ≤ q * left =
    subst (λ d. distance v (planned w (d ∷ gaps) softs 1) ≤ q * left) (sym e) reach in
    subst (λ d. planned v (q * left ∷ gaps) softs (i + 1) ≡ planned w (d ∷ gaps) softs (i + 1)) e
    (kept w v (q * left) (q * n) gaps softs many small reach' i h)

-- in mode Go it does
pub go_reaches : (w q n left top : ℕ) (gaps softs : List ℕ) → length gaps ≡ length softs
    → (0 < length softs → get_or softs 0 0 ≤ top)
    → distance (speed_after w q n left (planned w (q * (left + n) ∷ gaps) softs 1) top) (planned w (q * (left + n) ∷ gaps) softs 1) ≤ q * left
unfolding planned
go_reaches w q n left top gaps softs many topped =
    let d = q * (left + n) in
    let old = caps w (d ∷ gaps) softs in
    let whole = split q left n in
    let none = place_none gaps in
    let zero_at = place_none (d ∷ gaps) in
    let first = place-cons d gaps 0 in
    let cap_first = caps_first w (d ∷ gaps) softs in
    let from_start = greatest_le (d ∷ gaps) old 1 0 (omega arith) in
    let from_here = greatest_le (d ∷ gaps) old 1 1 (omega arith) in
    let cap_one : get_or old 1 0 ≤ max top (w - d) = elim (cases_lt 0 (length softs)) [
      | inl m ↦ let a = caps_inner w (d ∷ gaps) softs 0 m in let t = topped m in omega (arith, a, t, first, none)
      | inr m ↦
          let z : length softs ≡ 0 = omega arith in
          let a : get_or old 1 0 ≡ 0 = subst (λ k. get_or old (k + 1) 0 ≡ 0) z (caps_last w (d ∷ gaps) softs) in omega (arith, a)
    ] in
    omega (arith, whole, none, zero_at, first, cap_first, from_start, from_here, cap_one)

-- the caps behind a tail of which nothing is left
drop_caps : (v s : ℕ) (gaps softs : List ℕ) (k : ℕ) → length gaps ≡ length softs + 1 → k ≤ length softs
    → get_or (caps v gaps softs) (k + 1) 0 ≡ get_or (caps v (0 ∷ gaps) (s ∷ softs)) (k + 1 + 1) 0
drop_caps v s gaps softs k many h =
    elim (cases_lt k (length softs)) [
      | inl m ↦
          let a = caps_inner v gaps softs k m in
          let a' = caps_inner v (0 ∷ gaps) (s ∷ softs) (k + 1) (omega arith) in
          let c = get_or-cons s softs k in
          let p = place-cons 0 gaps (k + 1) in
          omega (arith, a, a', c, p)
      | inr m ↦
          let z : k ≡ length softs = omega arith in
          let z' : length (s ∷ softs) + 1 ≡ k + 1 + 1 = omega arith in
          let last : get_or (caps v (0 ∷ gaps) (s ∷ softs)) (k + 1 + 1) 0 ≡ 0 =
          subst (λ i. get_or (caps v (0 ∷ gaps) (s ∷ softs)) i 0 ≡ 0) z' (caps_last v (0 ∷ gaps) (s ∷ softs)) in
          subst (λ i. get_or (caps v gaps softs) (i + 1) 0 ≡ 0) (sym z) (caps_last v gaps softs) ∙ sym last
    ]

-- what held a speed there holds it as before
pub drop_at : (v s : ℕ) (gaps softs : List ℕ) (j k : ℕ) → length gaps ≡ length softs + 1 → j ≤ length gaps → k ≤ length (0 ∷ gaps)
    → allows (0 ∷ gaps) (caps v (0 ∷ gaps) (s ∷ softs)) (j + 1) k ≡ greatest (0 ∷ gaps) (caps v (0 ∷ gaps) (s ∷ softs)) (j + 1)
    → (m : ℕ) × (m ≤ k - 1) × (allows gaps (caps v gaps softs) j m ≡ greatest (0 ∷ gaps) (caps v (0 ∷ gaps) (s ∷ softs)) (j + 1))
drop_at v s gaps softs j k many h u at =
    let old = caps v (0 ∷ gaps) (s ∷ softs) in
    let new = caps v gaps softs in
    let now = greatest (0 ∷ gaps) old (j + 1) in
    let first = caps_first v (0 ∷ gaps) (s ∷ softs) in
    let first' = caps_first v gaps softs in
    let none = place_none gaps in
    let none' = place_none (0 ∷ gaps) in
    let pj = place-cons 0 gaps j in
    let start = greatest_le (0 ∷ gaps) old (j + 1) 0 (omega arith) in
    elim (cases_lt k 2) [
      | inr m ↦
          let e : k - 2 + 1 + 1 ≡ k = omega arith in
          let there : allows (0 ∷ gaps) old (j + 1) (k - 2 + 1 + 1) ≡ now =
          subst (λ k. allows (0 ∷ gaps) old (j + 1) k ≡ now) (sym e) at in
          let c = drop_caps v s gaps softs (k - 2) many (omega (arith, u)) in
          let p = place-cons 0 gaps (k - 2 + 1) in
          (k - 2 + 1, omega arith, omega (arith, there, c, p, pj))
      | inl m ↦ (
        0,
        omega arith,
        elim (cases_lt k 1) [
          | inl z ↦
              let e : k ≡ 0 = omega arith in
              let there : allows (0 ∷ gaps) old (j + 1) 0 ≡ now =
              subst (λ k. allows (0 ∷ gaps) old (j + 1) k ≡ now) e at in
              omega (arith, there, first, first', none, none', pj)
          | inr nz ↦
              let e : k ≡ 0 + 1 = omega arith in
              let there : allows (0 ∷ gaps) old (j + 1) (0 + 1) ≡ now =
              subst (λ k. allows (0 ∷ gaps) old (j + 1) k ≡ now) e at in
              let one = caps_inner v (0 ∷ gaps) (s ∷ softs) 0 (omega arith) in
              let p1 = place-cons 0 gaps 0 in
              omega (arith, there, one, p1, first, first', none, none', pj, start)
        ],
      )
    ]

-- a tail of which nothing is left goes: each point has the number before it, and its speed
pub dropped_keeps : (v s : ℕ) (gaps softs : List ℕ) (j : ℕ) → length gaps ≡ length softs + 1 → j ≤ length gaps
    → planned v (0 ∷ gaps) (s ∷ softs) (j + 1) ≡ planned v gaps softs j
unfolding planned
dropped_keeps v s gaps softs j many h =
    let old = caps v (0 ∷ gaps) (s ∷ softs) in
    let new = caps v gaps softs in
    let now = greatest (0 ∷ gaps) old (j + 1) in
    let at = greatest_at (0 ∷ gaps) old (j + 1) in
    let pj = place-cons 0 gaps j in
    let first = caps_first v (0 ∷ gaps) (s ∷ softs) in
    let first' = caps_first v gaps softs in
    let none = place_none gaps in
    let none' = place_none (0 ∷ gaps) in
    let start = greatest_le (0 ∷ gaps) old (j + 1) 0 (omega arith) in
    let one = caps_inner v (0 ∷ gaps) (s ∷ softs) 0 (omega arith) in
    let p1 = place-cons 0 gaps 0 in
    let there = drop_at v s gaps softs j at.0 many h at.1 at.2 in
    greatest_from gaps new j now (record {
      below = λ k l u. elim (cases_eq k 0) [
        | inl z ↦ subst (λ k. now ≤ allows gaps new j k) (sym z) (omega (arith, start, first, first', none, none', pj))
        | inr nz ↦ let s' : k - 1 + 1 ≡ k = omega arith in
            subst (λ k. now ≤ allows gaps new j k) s'
            (let c = drop_caps v s gaps softs (k - 1) many (omega arith) in
            let le = greatest_le (0 ∷ gaps) old (j + 1) (k - 1 + 1 + 1) (omega arith) in
            let p = place-cons 0 gaps (k - 1 + 1) in
            omega (arith, c, le, p, pj))
      ];
      reached = (there.0, omega arith, omega (arith, there.1, at.1), there.2);
    })
