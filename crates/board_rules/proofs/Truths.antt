-- Of truth values.
use Rattle.std.proofs.Common.{◌≡◌, Bool, true, false, ◌&&◌, ◌||◌, refl, sym, ◌∙◌}

pub either_left : (a b : Bool) → a ≡ true → (a || b) ≡ true
either_left true b is = refl
either_left false b is = absurd cc

pub either_right : (a b : Bool) → b ≡ true → (a || b) ≡ true
either_right true b is = refl
either_right false b is = is

pub neither_left : (a b : Bool) → (a || b) ≡ false → a ≡ false
neither_left true b none = absurd cc
neither_left false b none = refl

pub neither_right : (a b : Bool) → (a || b) ≡ false → b ≡ false
neither_right true b none = absurd cc
neither_right false b none = none

pub both_left : (a b : Bool) → (a && b) ≡ true → a ≡ true
both_left true b both = refl
both_left false b both = absurd cc

pub both_right : (a b : Bool) → (a && b) ≡ true → b ≡ true
both_right true b both = both
both_right false b both = absurd cc

pub by_not : (b : Bool) → (b ≡ true → ⊥) → b ≡ false
by_not true not = absurd (not refl)
by_not false not = refl

pub opposite : {A : Type 0} (b : Bool) → b ≡ true → b ≡ false → A
opposite b is none = absurd (let e = sym is ∙ none in cc)
