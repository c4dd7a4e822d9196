use Rattle.std.proofs.Common.{◌≡◌, ℕ, ◌<◌, List, [], ◌∷◌, length, slice_get, Some, refl, arith}
use Rattle.system_lines.specs.Commands.{kind_of}
use Rattle.system_lines.proofs.Kind.of.Goals as goal

-- a list that begins with an element and has no second one
only : (xs : List ℕ) (x : ℕ) → length xs < 2 → slice_get xs 0 ≡ Some x → xs ≡ x ∷ []
only [] x h e = absurd cc
only (y ∷ []) x h e = cc
only (y ∷ z ∷ xs) x h e = absurd (omega arith)

pub returns-in-empty : goal.returns-in-empty
unfolding kind_of
returns-in-empty c = rw (only c.args.line.now 36 c.in-empty.len_below c.requires) refl
