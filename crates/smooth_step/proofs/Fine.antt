-- The counter of an axis and the fine count.
use Rattle.std.proofs.Common.{◌≡◌, ℕ, zero, suc, ◌+◌, ◌-◌, ◌*◌, ◌/◌, ◌%◌, ◌≤◌, ◌<◌, ◌⊎◌, inl, inr, arith, ap, sym, subst, ◌∙◌, true, false, cond, ℤ, pos, nat_abs}
use Rattle.std.proofs.lemmas.Bool.{cases_lt}
use Rattle.std.proofs.lemmas.Bool.Decides.{nat_tests}
use Rattle.std.proofs.lemmas.Nat.{div-mul-add, div-add-mod', mod_below}
use Rattle.std.proofs.Math.Nat.{mul-le-mul_left, div-zero}
use Rattle.units.specs.Rounding.{with_sign_of}
use Rattle.units.specs.Counting.{count}
use Rattle.smooth_step.specs.Subticks.{fine, rises, part_bit}
use Rattle.smooth_step.specs.Counters.{IsCounter}

fine_is : (a N t q left : ℕ) → left < 8 * N → 8 * N * (q + 1) ≡ a * t + 4 * N + left → fine a N t ≡ q
unfolding fine
fine_is a N t q left below sum =
    let rest = 16 * N - 1 - 2 * left in
    let r : rest + 2 * left + 1 ≡ 16 * N = omega arith in
    let e : 2 * a * t + 8 * N - 1 ≡ q * (16 * N) + rest = grind (arith, sum, r) in
    ap (λ n. n / (16 * N)) e ∙ div-mul-add q (16 * N) rest (omega (arith, r))

-- a move of no events counts nothing
fine_still : (t : ℕ) → fine 0 0 t ≡ 0
unfolding fine
fine_still t = omega arith

fine_none : (a N : ℕ) → a ≤ N → fine a N 0 ≡ 0
fine_none zero zero h = fine_still 0
fine_none (suc a) zero h = absurd (omega arith)
fine_none a (suc n) h = fine_is a (suc n) 0 0 (4 * suc n) (omega arith) (grind arith)

pub starts : (a N : ℕ) → a ≤ N → IsCounter (4 * N) a N 0
starts a zero h = record { within = h; below = λ l. absurd (omega arith); sum = omega arith }
starts a (suc n) h = record {
  within = h;
  below = λ l. omega arith;
  sum = ap (λ m. 8 * suc n * (m + 1)) (fine_none a (suc n) h) ∙ grind arith;
}

-- some eighths of an event add as much as the whole event at most
pub few : (w a N : ℕ) → w ≤ 8 → a ≤ N → w * a ≤ 8 * N
few w a N small within =
    let some : a * w ≤ a * 8 = mul-le-mul_left a small in
    grind (arith, some)

-- what is left where less was left than is taken, and so an axis steps
over_sum : (left a N t w q : ℕ) → w * a ≤ 8 * N → 8 * N * (q + 1) ≡ a * t + 4 * N + left → 8 * N * (q + 1 + 1) ≡ a * (t + w) + 4 * N + (left + (8 * N - w * a))
over_sum left a N t w q whole sum =
    let rest = 8 * N - w * a in
    let r : rest + w * a ≡ 8 * N = omega arith in
    grind (arith, sum, r)

under_sum : (left a N t w q : ℕ) → w * a ≤ left → 8 * N * (q + 1) ≡ a * t + 4 * N + left → 8 * N * (q + 1) ≡ a * (t + w) + 4 * N + (left - w * a)
under_sum left a N t w q enough sum =
    let rest = left - w * a in
    let r : rest + w * a ≡ left = omega arith in
    grind (arith, sum, r)

more : (left a N t w : ℕ) → w ≤ 8 → IsCounter left a N t → left < w * a → fine a N (t + w) ≡ fine a N t + 1
more left a N t w small was over =
    let whole = few w a N small was.within in
    fine_is a N (t + w) (fine a N t + 1) (left + (8 * N - w * a)) (omega (arith, whole)) (over_sum left a N t w (fine a N t) whole was.sum)

same : (left a N t w : ℕ) → IsCounter left a N t → 0 < N → w * a ≤ left → fine a N (t + w) ≡ fine a N t
same left a N t w was some under = fine_is a N (t + w) (fine a N t) (left - w * a) (omega (arith, was.below some)) (under_sum left a N t w (fine a N t) under was.sum)

pub rises_where_more : (a N t u : ℕ) → fine a N u ≡ fine a N t + 1 → rises a N t u ≡ true
unfolding rises
rises_where_more a N t u e = rw e (grind (arith, nat_tests))

pub stays_where_same : (a N t u : ℕ) → fine a N u ≡ fine a N t → rises a N t u ≡ false
unfolding rises
stays_where_same a N t u e = rw e (grind (arith, nat_tests))

-- a part that steps the axis
pub goes_over : (left a N t w : ℕ) → w ≤ 8 → IsCounter left a N t → left < w * a → IsCounter (left + 8 * N - w * a) a N (t + w)
goes_over left a N t w small was over =
    let whole = few w a N small was.within in
    let e : left + (8 * N - w * a) ≡ left + 8 * N - w * a = omega (arith, whole) in
    subst (λ l. IsCounter l a N (t + w)) e (record {
      within = was.within;
      below = λ l. omega (arith, whole);
      sum = ap (λ m. 8 * N * (m + 1)) (more left a N t w small was over) ∙ over_sum left a N t w (fine a N t) whole was.sum;
    })

pub steps_over : (left a N t w : ℕ) (d s : ℤ) → w ≤ 8 → a ≡ nat_abs d → s ≡ with_sign_of d 1 → IsCounter left a N t → left < w * a → s ≡ part_bit d N t (t + w)
steps_over left a N t w d s small e f was over =
    let there = rw e at (rises_where_more a N t (t + w) (more left a N t w small was over)) in
    f ∙ sym (ap (λ b. cond b (with_sign_of d 1) (pos 0)) there)

-- a part that does not
pub stays_under : (left a N t w : ℕ) → IsCounter left a N t → 0 < N → w * a ≤ left → IsCounter (left - w * a) a N (t + w)
stays_under left a N t w was some under = record {
  within = was.within;
  below = λ l. omega (arith, was.below some);
  sum = ap (λ m. 8 * N * (m + 1)) (same left a N t w was some under) ∙ under_sum left a N t w (fine a N t) under was.sum;
}

pub rests_under : (left a N t w : ℕ) (d : ℤ) → a ≡ nat_abs d → IsCounter left a N t → 0 < N → w * a ≤ left → pos 0 ≡ part_bit d N t (t + w)
rests_under left a N t w d e was some under =
    let nowhere = rw e at (stays_where_same a N t (t + w) (same left a N t w was some under)) in
    sym (ap (λ b. cond b (with_sign_of d 1) (pos 0)) nowhere)

-- at the end of an event the fine count is the count
pub fine_is_count : (a N k : ℕ) → fine a N (8 * k) ≡ count a N k
unfolding fine count
fine_is_count a zero k = div-zero (2 * a * (8 * k) + 8 * zero - 1) ∙ sym (div-zero (2 * a * k + zero - 1))
fine_is_count a (suc n) k =
    let N = suc n in
    let m = 2 * a * k + N - 1 in
    let q = m / (2 * N) in
    let r = m % (2 * N) in
    let whole = div-add-mod' m (2 * N) in
    let small = mod_below m (2 * N) (omega arith) in
    let e : 2 * a * (8 * k) + 8 * N - 1 ≡ q * (16 * N) + (8 * r + 7) = grind (arith, whole) in
    ap (λ x. x / (16 * N)) e ∙ div-mul-add q (16 * N) (8 * r + 7) (omega (arith, small))

-- a whole quotient with a remainder of any size up to twice the divisor
rest_over : (n d q r : ℕ) → n ≡ q * d + r → d ≤ r → r < 2 * d → n / d ≡ q + 1
rest_over n d q r e low high =
    let f : n ≡ (q + 1) * d + (r - d) = grind arith in
    ap (λ m. m / d) f ∙ div-mul-add (q + 1) d (r - d) (omega arith)

rest_under : (n d q r : ℕ) → n ≡ q * d + r → r < d → n / d ≡ q
rest_under n d q r e high = ap (λ m. m / d) e ∙ div-mul-add q d r high

-- within eight eighths the fine count rises by one at most
pub one_more_or_same : (a N t u : ℕ) → a ≤ N → u ≤ 8 → (fine a N (t + u) ≡ fine a N t) ⊎ (fine a N (t + u) ≡ fine a N t + 1)
unfolding fine
one_more_or_same a zero t u h small = inl (let none : a ≡ 0 = omega arith in rw none (omega arith))
one_more_or_same a (suc n) t u h small =
    let N = suc n in
    let before = 2 * a * t + 8 * N - 1 in
    let q = before / (16 * N) in
    let r = before % (16 * N) + 2 * (u * a) in
    let whole = div-add-mod' before (16 * N) in
    let low = mod_below before (16 * N) (omega arith) in
    let added = few u a N small h in
    let e : 2 * a * (t + u) + 8 * N - 1 ≡ q * (16 * N) + r = grind (arith, whole) in
    elim (cases_lt r (16 * N)) [
      | inl under ↦ inl (rest_under (2 * a * (t + u) + 8 * N - 1) (16 * N) q r e under)
      | inr over ↦ inr (rest_over (2 * a * (t + u) + 8 * N - 1) (16 * N) q r e over (omega (arith, low, added)))
    ]
