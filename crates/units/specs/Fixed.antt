-- Thousandths as a text with three decimals.
use Rattle.std.specs.Prelude.{ℕ, ◌+◌, ◌/◌, ◌%◌, ℤ, pos, negsuc, nat_abs, List, [], ◌∷◌, ◌++◌, decimal}

-- a minus exactly if the number is negative
abbrev pub minus_sign : ℤ → List ℕ
minus_sign (pos n) = []
minus_sign (negsuc n) = 45 ∷ []

-- the last three digits of a number
abbrev pub three_digits : ℕ → List ℕ
three_digits n = (48 + n / 100 % 10) ∷ (48 + n / 10 % 10) ∷ (48 + n % 10) ∷ []

-- the sign, the whole part, a point, three digits
unfoldable pub fixed3 : ℤ → List ℕ
fixed3 v = minus_sign v ++ decimal (nat_abs v / 1000) ++ 46 ∷ three_digits (nat_abs v)
