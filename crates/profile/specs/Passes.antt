-- What the backward pass alone gives.
use Rattle.std.specs.Prelude.{ℕ, ◌+◌, ◌-◌, List, length}
use Rattle.profile.specs.Profiles.{least, allowed_by}

-- the greatest speed at point j by the caps from it on alone
unfoldable pub greatest_ahead : List ℕ → List ℕ → ℕ → ℕ
greatest_ahead gaps caps j = least (λ i. allowed_by gaps caps j (j + i)) (length gaps - j)
