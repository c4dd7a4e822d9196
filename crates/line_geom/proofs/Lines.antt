-- The lengths, units and caps of a line.
use Rattle.std.proofs.Common.{◌≡◌, ℕ, zero, suc, ◌+◌, ◌*◌, ◌/◌, ◌≤◌, ◌<◌, ◌⊎◌, inl, inr, min, arith, refl, ◌∙◌, List, [], ◌∷◌, ◌++◌, nat_eq, false, ℤ, nat_abs, length, get_or}
use Rattle.std.specs.List.{Contains}
use Rattle.std.proofs.lemmas.List.{get_or_default}
use Rattle.std.proofs.Math.Nat.{mul-le-mul, div-le_of_le-mul, div-le_self}
use Rattle.std.proofs.lemmas.Nat.{le-div}
use Rattle.std.proofs.lemmas.Bool.{cases_lt}
use Rattle.std.proofs.lemmas.Bool.Decides.{nat_tests}
use Rattle.units.specs.declared.Per3.{Per3}
use Rattle.units.specs.Roots.{root_of}
use Rattle.units.specs.Limits.{IsAxisCap, OnEachAxis}
use Rattle.units.proofs.Places.{root_is}
use Rattle.line_geom.specs.Geometry.{axis_length, line_length, axis_cap, axis_caps, least, IsShare, IsDirection}
use Rattle.line_geom.proofs.Squares.{root_above, root_below}

-- an axis goes at least 100 nm and at most 1,000,000 nm a step
pub axis_low : (a p : ℕ) → 1000 ≤ p → p ≤ 10000000 → 100 * a ≤ axis_length a p
axis_low a p low high =
    let le : a * p ≤ a * 10000000 = mul-le-mul (omega arith) high in
    le-div (100 * a) (a * 1000000000) p (omega arith) (omega (arith, le))

pub axis_high : (a p : ℕ) → 1000 ≤ p → axis_length a p ≤ 1000000 * a
axis_high a p low =
    let le : 1000 * a ≤ p * a = mul-le-mul low (omega arith) in
    div-le_of_le-mul p (omega (arith, le))

pub line_x : (x y z : ℕ) → x ≤ line_length x y z
unfolding line_length
line_x x y z = let le = root_above (x * x + y * y + z * z) x (root_of (x * x + y * y + z * z)) (omega arith) (root_is _) in omega arith

pub line_y : (x y z : ℕ) → y ≤ line_length x y z
unfolding line_length
line_y x y z = let le = root_above (x * x + y * y + z * z) y (root_of (x * x + y * y + z * z)) (omega arith) (root_is _) in omega arith

pub line_z : (x y z : ℕ) → z ≤ line_length x y z
unfolding line_length
line_z x y z = let le = root_above (x * x + y * y + z * z) z (root_of (x * x + y * y + z * z)) (omega arith) (root_is _) in omega arith

-- a line is no longer than twice its longest axis
pub line_le : (x y z m : ℕ) → 1 ≤ m → x ≤ m → y ≤ m → z ≤ m → line_length x y z ≤ 2 * m
unfolding line_length
line_le x y z m some xm ym zm =
    let x2 : x * x ≤ m * m = mul-le-mul xm xm in
    let y2 : y * y ≤ m * m = mul-le-mul ym ym in
    let z2 : z * z ≤ m * m = mul-le-mul zm zm in
    let le = root_below (x * x + y * y + z * z) (root_of (x * x + y * y + z * z)) (2 * m) (root_is _) (omega arith) in
    omega arith

pub line_some : (x y z : ℕ) → 1 ≤ line_length x y z
unfolding line_length
line_some x y z = omega arith

-- some axis goes at least half as far as the line
pub line_half : (x y z : ℕ) → 1 ≤ x + y + z → (line_length x y z ≤ 2 * x) ⊎ ((line_length x y z ≤ 2 * y) ⊎ (line_length x y z ≤ 2 * z))
line_half x y z some = elim (cases_lt x y) [
  | inl xy ↦ elim (cases_lt y z) [
    | inl yz ↦ inr (inr (line_le x y z z (omega arith) (omega arith) (omega arith) (omega arith)))
    | inr zy ↦ inr (inl (line_le x y z y (omega arith) (omega arith) (omega arith) (omega arith)))
  ]
  | inr yx ↦ elim (cases_lt x z) [
    | inl xz ↦ inr (inr (line_le x y z z (omega arith) (omega arith) (omega arith) (omega arith)))
    | inr zx ↦ inl (line_le x y z x (omega arith) (omega arith) (omega arith) (omega arith))
  ]
]

-- units in millionths
pub unit_high : (x length : ℕ) → 1 ≤ length → x ≤ length → x * 1000000 / length ≤ 1000000
unit_high x length some le = div-le_of_le-mul length (omega arith)

pub unit_low : (x length : ℕ) → 1 ≤ length → length ≤ 2 * x → 500000 ≤ x * 1000000 / length
unit_low x length some le = le-div 500000 (x * 1000000) length (omega arith) (omega arith)

-- what a cap allows along a line
pub cap_low : (cap u : ℕ) → 1000 ≤ cap → 0 < u → u ≤ 1000000 → 1000 ≤ cap * 1000000 / u
cap_low cap u low some high = le-div 1000 (cap * 1000000) u some (omega arith)

pub cap_high : (cap u : ℕ) → cap ≤ 1000000000 → 500000 ≤ u → cap * 1000000 / u ≤ 2000000000
cap_high cap u high low = div-le_of_le-mul u (omega arith)

-- the least of the shares
pub least_of : (a b c : ℕ) (xs ys zs : List ℕ) → IsShare a xs → IsShare b ys → IsShare c zs → min (min a b) c < 18446744073709551615 → min (min a b) c ≡ least (xs ++ ys ++ zs)
least_of a b c xs ys zs p q r some = elim p [
  | inl x ↦ elim q [
    | inl y ↦ elim r [ inl z ↦ omega (arith, x.1, y.1, z.1) | inr z ↦ rw (x.0, y.0, z.0) (omega (arith, x.1, y.1, z.1)) ]
    | inr y ↦ elim r [ inl z ↦ rw (x.0, y.0, z.0) (omega (arith, x.1, y.1, z.1)) | inr z ↦ rw (x.0, y.0, z.0) (omega (arith, x.1, y.1, z.1)) ]
  ]
  | inr x ↦ elim q [
    | inl y ↦ elim r [ inl z ↦ rw (x.0, y.0, z.0) (omega (arith, x.1, y.1, z.1)) | inr z ↦ rw (x.0, y.0, z.0) (omega (arith, x.1, y.1, z.1)) ]
    | inr y ↦ elim r [ inl z ↦ rw (x.0, y.0, z.0) (omega (arith, x.1, y.1, z.1)) | inr z ↦ rw (x.0, y.0, z.0) (omega (arith, x.1, y.1, z.1)) ]
  ]
]

-- the least is low, since some axis goes at least half as far as the line
pub least_high : (a b c u v w : ℕ) → (500000 ≤ u → a ≤ 2000000000) → (500000 ≤ v → b ≤ 2000000000) → (500000 ≤ w → c ≤ 2000000000) → (500000 ≤ u) ⊎ (500000 ≤ v) ⊎ (500000 ≤ w) → min (min a b) c ≤ 2000000000
least_high a b c u v w x y z main = elim main [
  | inl first ↦ omega (arith, x first)
  | inr rest ↦ elim rest [ inl second ↦ omega (arith, y second) | inr third ↦ omega (arith, z third) ]
]

pub least_here : (a b c r : ℕ) (xs ys zs : List ℕ) → IsShare a xs → IsShare b ys → IsShare c zs → min (min a b) c ≤ 2000000000 → r ≡ min (min a b) c → r ≡ least (xs ++ ys ++ zs)
least_here a b c r xs ys zs p q s high is = is ∙ least_of a b c xs ys zs p q s (omega (arith, high))

-- the share of an axis
pub share_still : (cap : ℕ) → IsShare 18446744073709551615 (axis_cap cap 0)
share_still cap = inl (refl, refl)

pub share_moves : (cap u : ℕ) → 0 < u → cap ≤ 1000000000 → IsShare (cap * 1000000 / u) (axis_cap cap u)
share_moves cap u some high =
    let test : nat_eq u 0 ≡ false = grind (arith, nat_tests) in
    rw test (inr (refl, omega (arith, div-le_self (cap * 1000000) u)))

-- the least that the axes of a direction allow
share_bounds : (cap u : ℕ) → 1000 ≤ cap → cap ≤ 1000000000 → u ≤ 1000000 → (r : ℕ) × IsShare r (axis_cap cap u) × (1000 ≤ r) × (500000 ≤ u → r ≤ 2000000000)
share_bounds cap zero low high part = (18446744073709551615, share_still cap, omega arith, λ h. absurd (omega arith))
share_bounds cap (suc u) low high part =
    let some : 0 < suc u = omega arith in (cap * 1000000 / suc u, share_moves cap (suc u) some high, cap_low cap (suc u) low some part, cap_high cap (suc u) high)

pub least_bounds : (cap : Per3) (ux uy uz : ℤ) → OnEachAxis IsAxisCap cap → IsDirection ux uy uz → (1000 ≤ least (axis_caps cap ux uy uz)) × (least (axis_caps cap ux uy uz) ≤ 2000000000)
least_bounds cap ux uy uz caps way =
    let x = share_bounds cap.x (nat_abs ux) caps.x.0 caps.x.1 way.x in
    let y = share_bounds cap.y (nat_abs uy) caps.y.0 caps.y.1 way.y in
    let z = share_bounds cap.z (nat_abs uz) caps.z.0 caps.z.1 way.z in
    let high = least_high x.0 y.0 z.0 _ _ _ x.3 y.3 z.3 way.main in
    let is = least_of x.0 y.0 z.0 _ _ _ x.1 y.1 z.1 (omega arith) in (omega (arith, is, x.2, y.2, z.2), omega (arith, is, high))

-- how much the squared speed may change
pub change_low : (a length n : ℕ) → 1 ≤ n → 1000 ≤ a → 100 * n ≤ length → 200 ≤ 2 * a * length / (1000 * n)
change_low a length n some low long =
    let le : 1000 * (100 * n) ≤ a * length = mul-le-mul low long in
    le-div 200 (2 * a * length) (1000 * n) (omega arith) (omega (arith, le))

pub change_high : (a length n : ℕ) → 1 ≤ n → a ≤ 2000000000 → length ≤ 2000000 * n → 2 * a * length / (1000 * n) ≤ 8000000000000
change_high a length n some high long =
    let le : a * length ≤ 2000000000 * (2000000 * n) = mul-le-mul high long in
    div-le_of_le-mul (1000 * n) (omega (arith, le))

-- the units of a line
pub main_of : (x y z length a b c : ℕ) → length ≡ line_length x y z → 1 ≤ x + y + z → a ≡ x * 1000000 / length → b ≡ y * 1000000 / length → c ≡ z * 1000000 / length → (500000 ≤ a) ⊎ (500000 ≤ b) ⊎ (500000 ≤ c)
main_of x y z length a b c is some ax by' cz =
    let one : 1 ≤ length = omega (arith, line_some x y z) in
    elim (line_half x y z some) [
      | inl hx ↦ inl (rw ax (unit_low x length one (omega arith)))
      | inr rest ↦ elim rest [
        | inl hy ↦ inr (inl (rw by' (unit_low y length one (omega arith))))
        | inr hz ↦ inr (inr (rw cz (unit_low z length one (omega arith))))
      ]
    ]

-- the least of some numbers
pub least_among : (xs : List ℕ) → 0 < length xs → Contains xs (least xs)
least_among [] some = absurd (omega arith)
least_among (x ∷ []) some = (0, omega arith, refl)
least_among (x ∷ y ∷ ys) some =
    let rest = least_among (y ∷ ys) (omega arith) in
    let m : ℕ = least (y ∷ ys) in
    elim (cases_lt x m) [
      | inl first ↦ (0, omega arith, omega arith)
      | inr later ↦
          let is : m ≡ min x m = omega arith in
          (suc rest.0, omega (arith, rest.1), get_or_default (y ∷ ys) rest.0 (min x m) m rest.1 ∙ rest.2 ∙ is)
    ]

pub least_below : (xs : List ℕ) (k d : ℕ) → k < length xs → least xs ≤ get_or xs k d
least_below [] k d within = absurd (omega arith)
least_below (x ∷ []) zero d within = omega arith
least_below (x ∷ []) (suc k) d within = absurd (omega arith)
least_below (x ∷ y ∷ ys) zero d within = omega arith
least_below (x ∷ y ∷ ys) (suc k) d within = omega (arith, least_below (y ∷ ys) k d (omega arith))
