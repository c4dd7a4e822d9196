-- Newton's steps towards a square root.
use Rattle.std.proofs.Common.{◌≡◌, ℕ, ◌+◌, ◌-◌, ◌*◌, ◌/◌, ◌^◌, ◌≤◌, ◌<◌, inl, inr, arith, lit<}
use Rattle.std.proofs.Math.Nat.{lt-mul-div-succ, pow-le-pow_right}
use Rattle.std.proofs.lemmas.Bool.{cases_lt}
use Rattle.std.proofs.lemmas.Nat.{mul-le, div_below}

-- four times a product is at most the square of the sum
four_apart : (b k : ℕ) → 4 * ((b + k) * b) ≤ ((b + k) + b) * ((b + k) + b)
four_apart b k = omega arith

four_products : (a b : ℕ) → 4 * (a * b) ≤ (a + b) * (a + b)
four_products a b = elim (cases_lt a b) [
  | inl less ↦ let k = b - a in let is : b ≡ a + k = omega arith in rw is (omega (arith, four_apart a k))
  | inr le ↦ let k = a - b in let is : a ≡ b + k = omega arith in rw is (four_apart b k)
]

-- a step leads to no less than the root
pub not_below : (x g : ℕ) → 0 < g → x < ((g + x / g) / 2 + 1) * ((g + x / g) / 2 + 1)
not_below x g some =
    let d = x / g in
    let m = (g + d) / 2 in
    let high : x < g * (d + 1) = lt-mul-div-succ x some in
    let four = four_products g (d + 1) in
    let half : g + (d + 1) ≤ 2 * (m + 1) = omega arith in
    let square = mul-le (g + (d + 1)) (g + (d + 1)) (2 * (m + 1)) (2 * (m + 1)) half half in
    let all : (2 * (m + 1)) * (2 * (m + 1)) ≡ 4 * ((m + 1) * (m + 1)) = omega arith in
    omega (arith, high, four, square, all)

-- from above the root it leads lower
pub falls_above : (x g : ℕ) → 0 < g → x < g * g → (g + x / g) / 2 < g
falls_above x g some above = let less = div_below x g g some above in omega (arith, less)

-- half the places of a number of 64 bits
pub power_small : (k : ℕ) → k < 64 → 2 ^ ((k + 1) / 2) ≤ 2 ^ 32
power_small k h = let le : (k + 1) / 2 ≤ 32 = omega arith in pow-le-pow_right {n = 2} (let p : 0 < 2 = lit< tt in p) le

-- the square of a number of 32 bits
pub square_small : (r : ℕ) → r < 2 ^ 32 → r * r < 2 ^ 64
square_small r h = let square = mul-le r r 4294967295 4294967295 (omega (arith, h)) (omega (arith, h)) in omega (arith, square)
