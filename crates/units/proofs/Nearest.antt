-- The whole number that is nearest to a quotient.
use Rattle.std.proofs.Common.{◌≡◌, ℕ, zero, suc, ◌+◌, ◌-◌, ◌*◌, ◌/◌, ◌%◌, ◌≤◌, ◌<◌, ℤ, pos, negsuc, ◌-ℤ◌, ◌*ℤ◌, nat_abs, refl, sym, ap, ◌∙◌, arith}
use Rattle.std.proofs.lemmas.Int.{ints}
use Rattle.std.proofs.lemmas.Nat.{div-add-mod', div-mul-add, mod_below, div_below}
use Rattle.units.specs.Rounding.{with_sign_of, rounded_quotient, IsNearest, KeepsSign}

-- the remainder says which of two whole numbers is nearer
pub half_down : (m d : ℕ) → m % d < d - m % d → (2 * m + d) / (2 * d) ≡ m / d
half_down m d h =
    let whole = div-add-mod' m d in
    let e : 2 * m + d ≡ m / d * (2 * d) + (2 * (m % d) + d) = grind (arith, whole) in
    ap (λ n. n / (2 * d)) e ∙ div-mul-add (m / d) (2 * d) (2 * (m % d) + d) (omega arith)

pub half_up : (m d : ℕ) → 0 < d → d - m % d ≤ m % d → (2 * m + d) / (2 * d) ≡ m / d + 1
half_up m d some h =
    let whole = div-add-mod' m d in
    let small = mod_below m d some in
    let e : 2 * m + d ≡ (m / d + 1) * (2 * d) + (2 * (m % d) - d) = grind (arith, whole) in
    ap (λ n. n / (2 * d)) e ∙ div-mul-add (m / d + 1) (2 * d) (2 * (m % d) - d) (omega arith)

-- how far apart two magnitudes of one sign are
gap : (a : ℤ) (q d : ℕ) → nat_abs (a -ℤ (with_sign_of a q *ℤ pos d)) ≡ (nat_abs a - q * d) + (q * d - nat_abs a)
gap (pos n) q d = omega (arith, ints)
gap (negsuc n) zero d = omega (arith, ints)
gap (negsuc n) (suc q) d = omega (arith, ints)

size_of : (a : ℤ) (q : ℕ) → nat_abs (with_sign_of a q) ≡ q
size_of (pos n) q = refl
size_of (negsuc n) zero = refl
size_of (negsuc n) (suc q) = refl

keeps : (a : ℤ) (q : ℕ) → (nat_abs a ≡ 0 → q ≡ 0) → KeepsSign a (with_sign_of a q)
keeps (pos n) q none = record { up = λ _. omega (arith, ints); down = λ h. let z : q ≡ 0 = none (omega (arith, ints)) in omega (arith, ints, z) }
keeps (negsuc n) zero none = record { up = λ h. absurd (omega (arith, ints)); down = λ _. omega (arith, ints) }
keeps (negsuc n) (suc q) none = record { up = λ h. absurd (omega (arith, ints)); down = λ _. omega (arith, ints) }

pub nearest : (a : ℤ) (d : ℕ) → 0 < d → IsNearest a d (rounded_quotient a d)
unfolding rounded_quotient
nearest a d some =
    let m = nat_abs a in
    let q = (2 * m + d) / (2 * d) in
    let whole = div-add-mod' (2 * m + d) (2 * d) in
    let small = mod_below (2 * m + d) (2 * d) (omega arith) in
    let apart = gap a q d in
    let size = size_of a q in
    record {
      near = rw apart (omega (arith, whole, small));
      tie = λ e. rw size (omega (arith, whole, small, rw apart at e));
      sign = keeps a q (λ none. ap (λ n. n / (2 * d)) (let z : 2 * m + d ≡ 0 * (2 * d) + d = omega (arith, none) in z) ∙ div-mul-add 0 (2 * d) d (omega arith));
    }

signed_as : (a r : ℤ) → KeepsSign a r → r ≡ with_sign_of a (nat_abs r)
signed_as (pos n) (pos s) h = refl
signed_as (pos n) (negsuc s) h = absurd (omega (arith, ints, h.up (omega (arith, ints))))
signed_as (negsuc n) (pos s) h = let none : s ≡ 0 = omega (arith, ints, h.down (omega (arith, ints))) in rw none refl
signed_as (negsuc n) (negsuc s) h = refl

within : (m d s : ℕ) → 0 < d → 2 * ((m - s * d) + (s * d - m)) ≤ d → (2 * ((m - s * d) + (s * d - m)) ≡ d → m < s * d) → (2 * m + d) / (2 * d) ≡ s
within m d s some near tie =
    let e : 2 * m + d ≡ s * (2 * d) + (2 * m + d - 2 * (s * d)) = grind arith in
    ap (λ n. n / (2 * d)) e ∙ div-mul-add s (2 * d) (2 * m + d - 2 * (s * d)) (grind arith)

pub only : (a : ℤ) (d : ℕ) (r : ℤ) → 0 < d → IsNearest a d r → r ≡ rounded_quotient a d
unfolding rounded_quotient
only a d r some is =
    let m = nat_abs a in
    let s = nat_abs r in
    let same = signed_as a r is.sign in
    let apart : nat_abs (a -ℤ (r *ℤ pos d)) ≡ (m - s * d) + (s * d - m) = ap (λ t. nat_abs (a -ℤ (t *ℤ pos d))) same ∙ gap a s d in
    let near : 2 * ((m - s * d) + (s * d - m)) ≤ d = rw apart at is.near in
    let tie : 2 * ((m - s * d) + (s * d - m)) ≡ d → m < s * d = rw apart at is.tie in
    same ∙ ap (with_sign_of a) (sym (within m d s some near tie))

-- a factor above zero keeps the sign
pub keeps_scaled : (a r : ℤ) (p : ℕ) → KeepsSign (a *ℤ pos p) r → KeepsSign a r
keeps_scaled (pos n) r p h = record { up = λ _. h.up (omega (arith, ints)); down = λ le. let none : n ≡ 0 = omega (arith, ints) in h.down (rw none (omega (arith, ints))) }
keeps_scaled (negsuc n) r p h = record { up = λ le. absurd (omega (arith, ints)); down = λ _. h.down (omega (arith, ints)) }

pub quotient_keeps : (a : ℤ) (p d : ℕ) → 0 < d → KeepsSign a (rounded_quotient (a *ℤ pos p) d)
quotient_keeps a p d some = keeps_scaled a (rounded_quotient (a *ℤ pos p) d) p (nearest (a *ℤ pos p) d some).sign

size_scaled : (a : ℤ) (p : ℕ) → nat_abs (a *ℤ pos p) ≡ nat_abs a * p
size_scaled (pos n) p = refl
size_scaled (negsuc n) p = omega (arith, ints)

-- a quotient that is at most a whole number is rounded to at most that number
pub quotient_small : (a : ℤ) (p d m : ℕ) → 0 < d → nat_abs a * p ≤ m * d → nat_abs (rounded_quotient (a *ℤ pos p) d) ≤ m
unfolding rounded_quotient
quotient_small a p d m some le =
    let e = size_scaled a p in
    rw size_of (let h : (2 * nat_abs (a *ℤ pos p) + d) / (2 * d) < m + 1 = div_below (2 * nat_abs (a *ℤ pos p) + d) (2 * d) (m + 1) (omega arith) (rw e (grind (arith, le))) in omega (arith, h))
