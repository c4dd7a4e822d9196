-- The speeds from which a plan can slow down pass through all that happens to it.
use Rattle.std.proofs.Common.{◌≡◌, ℕ, ◌+◌, ◌-◌, ◌*◌, ◌≤◌, ◌<◌, max, inl, inr, arith, ap, sym, ◌∙◌, subst}
use Rattle.std.proofs.Common.{List, [], ◌∷◌, ◌++◌, length, get_or}
use Rattle.std.proofs.lemmas.Bool.{cases_lt, cases_eq}
use Rattle.std.proofs.lemmas.List.{get_or_append_left, length_push}
use Rattle.std.proofs.lemmas.List.Sums.{sum_by-append, sum_by-cons}
use Rattle.std.specs.List.{sum}
use Rattle.profile.specs.Profiles.{place, distance, greatest}
use Rattle.profile.specs.Caps.{IsSofter, caps, planned}
use Rattle.profile.specs.Slowing.{IsSlowable, speed_after}
use Rattle.profile.proofs.Places.{place_none, place_all, place-cons, place-push, place_rising, greatest_le, greatest_first, greatest_smooth}
use Rattle.profile.proofs.Caps.{get_or-cons, caps_first, caps_inner, caps_last}

sum-push : (g : ℕ) (gaps : List ℕ) → sum (gaps ++ g ∷ []) ≡ sum gaps + g
sum-push g gaps =
    let one : sum (g ∷ []) ≡ g = sum_by-cons (λ x. x) g [] ∙ omega arith in
    sum_by-append (λ x. x) gaps (g ∷ []) ∙ ap (λ n. sum gaps + n) one

-- nothing stands
pub slow_cleared : IsSlowable 0 [] []
slow_cleared = record { stops = omega arith; slows = λ j h. omega arith }

-- a block comes into an empty plan
pub slow_first : (g : ℕ) → IsSlowable 0 (g ∷ []) []
slow_first g = record { stops = omega arith; slows = λ j h. omega arith }

-- a block is added at the end
pub slow_added : (w g h : ℕ) (gaps hards : List ℕ) → length gaps ≡ length hards + 1
    → IsSlowable w gaps hards → IsSlowable w (gaps ++ g ∷ []) (hards ++ h ∷ [])
slow_added w g h gaps hards many is = record {
  stops = let e = sum-push g gaps in omega (arith, e, is.stops);
  slows = λ j l.
      let n = length_push hards h in
      elim (cases_lt j (length hards)) [
        | inl m ↦ rw (get_or_append_left hards (h ∷ []) 0 j m, place-push g gaps (j + 1) (omega arith)) (is.slows j m)
        | inr m ↦
            rw (place-push g gaps (j + 1) (omega arith), place_all gaps (j + 1) (omega arith)) (omega (arith, is.stops))
      ];
}

-- a cap is no more than what it is at worst: the speed can fall to 0 at the end, and to a hard cap at a junction
cap_le : (w : ℕ) (gaps softs hards : List ℕ) → IsSlowable w gaps hards → IsSofter softs hards
    → (j : ℕ) → j < length hards → get_or (caps w gaps softs) (j + 1) 0 ≤ get_or hards j 0
cap_le w gaps softs hards is soft j h =
    let e = caps_inner w gaps softs j (omega (arith, soft.as_many)) in
    let s = soft.below j h in
    let l = is.slows j h in
    rw e (omega (arith, s, l))

-- the speed at the first point is the present one
pub planned_first : (w : ℕ) (gaps softs hards : List ℕ) → length gaps ≡ length hards + 1 → IsSlowable w gaps hards → IsSofter softs hards
    → planned w gaps softs 0 ≡ w
unfolding planned
planned_first w gaps softs hards many is soft =
    let first = caps_first w gaps softs in
    greatest_first gaps (caps w gaps softs) (λ k h. rw first
    (elim (cases_eq k 0) [
      | inl e ↦ subst (λ k. w ≤ get_or (caps w gaps softs) k 0 + place gaps k) (sym e) (omega (arith, first))
      | inr ne ↦
          let p : k - 1 + 1 ≡ k = omega arith in
          subst (λ k. w ≤ get_or (caps w gaps softs) k 0 + place gaps k) p
          (elim (cases_lt (k - 1) (length softs)) [
            | inl m ↦ let e = caps_inner w gaps softs (k - 1) m in omega (arith, e)
            | inr m ↦ let e = place_all gaps (k - 1 + 1) (omega (arith, soft.as_many)) in omega (arith, e, is.stops)
          ])
    ])) ∙ first

-- the planned speed at the end of the tail, as far as hard caps and the end hold it
exit_le : (w : ℕ) (gaps softs hards : List ℕ) → length gaps ≡ length hards + 1 → IsSlowable w gaps hards
    → IsSofter softs hards → (j : ℕ) → j < length hards
    → planned w gaps softs 1 + place gaps 1 ≤ get_or hards j 0 + place gaps (j + 1)
unfolding planned
exit_le w gaps softs hards many is soft j h =
    let le = greatest_le gaps (caps w gaps softs) 1 (j + 1) (omega (arith, many)) in
    let cap = cap_le w gaps softs hards is soft j h in
    let up = place_rising gaps 1 (j + 1) (omega arith) in
    omega (arith, le, cap, up)

exit_stops : (w : ℕ) (gaps softs hards : List ℕ) → length gaps ≡ length hards + 1 → IsSofter softs hards
    → planned w gaps softs 1 + place gaps 1 ≤ sum gaps
unfolding planned
exit_stops w gaps softs hards many soft =
    let le = greatest_le gaps (caps w gaps softs) 1 (length softs + 1) (omega (arith, many, soft.as_many)) in
    let cap = caps_last w gaps softs in
    let all = place_all gaps (length softs + 1) (omega (arith, many, soft.as_many)) in
    let up = place_rising gaps 1 (length softs + 1) (omega arith) in
    omega (arith, le, cap, up, all)

-- what is left of the tail shrinks from d to d', and the speed is at most what the exit allows there
slow_moved : (w v d d' : ℕ) (gaps softs hards : List ℕ) → length gaps ≡ length hards → d' ≤ d
    → IsSlowable w (d ∷ gaps) hards → IsSofter softs hards → v ≤ planned w (d ∷ gaps) softs 1 + d' → IsSlowable v (d' ∷ gaps) hards
slow_moved w v d d' gaps softs hards many less is soft le =
    let first = place-cons d gaps 0 in
    let none = place_none gaps in
    record {
      stops =
          let h = exit_stops w (d ∷ gaps) softs hards (omega arith) soft in
          let e = sum_by-cons (λ x. x) d gaps in
          let e' = sum_by-cons (λ x. x) d' gaps in
          omega (arith, h, e, e', first, none, le);
      slows = λ j l.
          let h = exit_le w (d ∷ gaps) softs hards (omega arith) is soft j l in
          let e = place-cons d gaps j in
          let e' = place-cons d' gaps j in
          omega (arith, h, e, e', first, none, le);
    }

-- the speed falls by as much as the tail shrinks
slow_held : (w d d' : ℕ) (gaps hards : List ℕ) → d' ≤ d
    → IsSlowable w (d ∷ gaps) hards → IsSlowable (w - (d - d')) (d' ∷ gaps) hards
slow_held w d d' gaps hards less is = record {
  stops =
      let e = sum_by-cons (λ x. x) d gaps in
      let e' = sum_by-cons (λ x. x) d' gaps in
      omega (arith, is.stops, e, e');
  slows = λ j l.
      let h = is.slows j l in
      let e = place-cons d gaps j in
      let e' = place-cons d' gaps j in
      omega (arith, h, e, e');
}

-- a tail of which nothing is left goes, and at the junction behind it the speed is at most the hard cap
pub slow_dropped : (w h : ℕ) (gaps hards : List ℕ)
    → IsSlowable w (0 ∷ gaps) (h ∷ hards) → (w ≤ h) × IsSlowable w gaps hards
slow_dropped w h gaps hards is =
    let first = is.slows 0 (omega arith) in
    let here = place-cons 0 gaps 0 in
    let none = place_none gaps in (
      omega (arith, first, here, none),
      record {
        stops = let e = sum_by-cons (λ x. x) 0 gaps in omega (arith, is.stops, e);
        slows = λ j l.
            let later = is.slows (j + 1) (omega arith) in
            let hard = get_or-cons h hards j in
            let there = place-cons 0 gaps (j + 1) in
            omega (arith, later, hard, there);
      },
    )

pub slow_ended : (w : ℕ) → IsSlowable w (0 ∷ []) [] → w ≡ 0
slow_ended w is = omega (arith, is.stops)

-- a segment in mode Go
pub slow_gone : (w q n left top : ℕ) (gaps hards softs : List ℕ) → length gaps ≡ length hards → IsSofter softs hards
    → IsSlowable w (q * (left + n) ∷ gaps) hards
    → IsSlowable (speed_after w q n left (planned w (q * (left + n) ∷ gaps) softs 1) top) (q * left ∷ gaps) hards
slow_gone w q n left top gaps hards softs many soft is =
    let exit = planned w (q * (left + n) ∷ gaps) softs 1 in
    let less : q * left ≤ q * (left + n) = grind arith in
    let le : speed_after w q n left exit top ≤ exit + q * left = omega arith in
    slow_moved w (speed_after w q n left exit top) (q * (left + n)) (q * left) gaps softs hards many less is soft le

-- its speed is no further from the one before than its events allow
pub gone_near : (w q n left top : ℕ) (gaps hards softs : List ℕ) → length gaps ≡ length hards → IsSofter softs hards
    → IsSlowable w (q * (left + n) ∷ gaps) hards
    → distance w (speed_after w q n left (planned w (q * (left + n) ∷ gaps) softs 1) top) ≤ q * n
unfolding planned
gone_near w q n left top gaps hards softs many soft is =
    let all = q * (left + n) ∷ gaps in
    let first : greatest all (caps w all softs) 0 ≡ w = planned_first w all softs hards (omega arith) is soft in
    let near : distance (planned w all softs 0) (planned w all softs 1) ≤ q * (left + n) = greatest_smooth all (caps w all softs) 0 in
    let split : q * (left + n) ≡ q * left + q * n = grind arith in
    omega (arith, first, near, split)

-- and no more than the greater one of the speed before and the top speed
pub gone_below : (w q n left exit top : ℕ) → speed_after w q n left exit top ≤ max w top
gone_below w q n left exit top = omega arith

-- a segment in mode Hold
pub slow_holding : (w q n left : ℕ) (gaps hards : List ℕ)
    → IsSlowable w (q * (left + n) ∷ gaps) hards → IsSlowable (w - q * n) (q * left ∷ gaps) hards
slow_holding w q n left gaps hards is =
    let less : q * left ≤ q * (left + n) = grind arith in
    let whole : q * (left + n) ≡ q * left + q * n = grind arith in
    let split : q * (left + n) - q * left ≡ q * n = omega (arith, whole) in
    subst (λ s. IsSlowable (w - s) (q * left ∷ gaps) hards) split (slow_held w (q * (left + n)) (q * left) gaps hards less is)
