-- Places in a circle.
use Rattle.std.proofs.Common.{◌≡◌, ℕ, ◌+◌, ◌%◌, ap, ◌∙◌}
use Rattle.std.proofs.Math.Nat.{mod-add-mod}

-- the place of the next count is behind that of a count
pub next_place : (place count size : ℕ) → place ≡ count % size → (place + 1) % size ≡ (count + 1) % size
next_place place count size is = ap (λ n. (n + 1) % size) is ∙ mod-add-mod count size 1
