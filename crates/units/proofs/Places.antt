-- Square roots, place by place.
use Rattle.std.proofs.Common.{◌≡◌, ℕ, ◌+◌, ◌-◌, ◌*◌, ◌/◌, ◌^◌, ◌≤◌, ◌<◌, Bool, true, false, cond, nat_le, zero, suc, refl, inl, inr, add-one, ap, sym, ◌∙◌, arith, lit<}
use Rattle.std.proofs.lemmas.Bool.{cases_lt}
use Rattle.std.proofs.lemmas.Bool.Decides.{nat_tests}
use Rattle.units.specs.Roots.{IsRoot, root_up_to, root_of}
use Rattle.std.proofs.Math.Nat.{pow-le-pow_right}
use Rattle.std.proofs.lemmas.Nat.{pow-add, pow_pos, mul-le}

-- a number of k + 1 bits has a root of half as many
pub top : (x k : ℕ) → x < 2 * 2 ^ k → x < 2 ^ (k / 2 + 1) * 2 ^ (k / 2 + 1)
top x k h =
    let p = k / 2 + 1 in
    let long : 2 ^ (k + 1) ≤ 2 ^ (p + p) = pow-le-pow_right {n = 2} (omega arith) (omega arith) in
    let more : 2 ^ (k + 1) ≡ 2 ^ k * 2 ^ 1 = pow-add 2 k 1 in
    rw (sym (pow-add 2 p p)) (omega (arith, long, more))

pub top_fits : (k : ℕ) → k < 128 → 2 ^ (k / 2 + 1) ≤ 2 ^ 64
top_fits k h = let le : k / 2 + 1 ≤ 64 = omega arith in pow-le-pow_right {n = 2} (let p : 0 < 2 = lit< tt in p) le

-- a place weighs half of the next higher one
pub halves : (p : ℕ) → 0 < p → (2 ^ p ≡ 2 ^ (p - 1) + 2 ^ (p - 1)) × (0 < 2 ^ (p - 1))
halves p h =
    let e : 2 ^ p ≡ 2 ^ (p - 1) * 2 ^ 1 = ap (λ n. 2 ^ n) (let i : p ≡ (p - 1) + 1 = omega arith in i) ∙ pow-add 2 (p - 1) 1 in
    (omega (arith, e), pow_pos (p - 1))

-- the greatest number up to suc b, by whether suc b itself is small enough
root_case : (t : Bool) (b x : ℕ) → nat_le (suc b * suc b) x ≡ t → x < (suc b + 1) * (suc b + 1) → (x < (b + 1) * (b + 1) → IsRoot x (root_up_to b x)) → IsRoot x (cond t (suc b) (root_up_to b x))
root_case true b x e h below = record { low = grind (arith, nat_tests); high = h }
root_case false b x e h below = below (rw add-one (grind (arith, nat_tests)))

root_found : (b x : ℕ) → x < (b + 1) * (b + 1) → IsRoot x (root_up_to b x)
root_found zero x h = record { low = omega arith; high = h }
root_found (suc b) x h = root_case (nat_le (suc b * suc b) x) b x refl h (root_found b x)

pub root_is : (x : ℕ) → IsRoot x (root_of x)
unfolding root_of
root_is x = root_found x x (grind arith)

-- a root is at most another one of the same number
root_le : (x r s : ℕ) → IsRoot x r → IsRoot x s → r ≤ s
root_le x r s a b = elim (cases_lt s r) [
  | inl more ↦ let next : s + 1 ≤ r = omega arith in absurd (omega (arith, a.low, b.high, mul-le (s + 1) (s + 1) r r next next))
  | inr le ↦ le
]

pub one_root : (x r : ℕ) → IsRoot x r → r ≡ root_of x
one_root x r is = omega (arith, root_le x r (root_of x) is (root_is x), root_le x (root_of x) r (root_is x) is)
