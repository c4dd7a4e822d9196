-- A list that is written from its front on.
use Rattle.std.proofs.Math.ListN.{length-set}
use Rattle.std.proofs.Common.{◌≡◌, ℕ, ◌+◌, ◌<◌, ◌≤◌, List, length, get_or, set, take, sym, ◌∙◌, arith}
use Rattle.std.proofs.lemmas.List.{take_all, take_more_same, take-set, get_or-set_same}

-- one more place is written
pub write_more : {X : Type 0} (xs ys : List X) (place : ℕ) (y d : X) → place < length xs → place < length ys
    → take place xs ≡ take place ys → y ≡ get_or ys place d → take (place + 1) (set xs place y) ≡ take (place + 1) ys
write_more xs ys place y d here there so_far value =
    take_more_same (set xs place y) ys place d (simp length-set (omega arith)) there
    (take-set xs place y ∙ so_far) (get_or-set_same xs place y d here ∙ value)

-- all are
pub written : {X : Type 0} (xs ys : List X) (n : ℕ) → length xs ≤ n → length ys ≤ n → take n xs ≡ take n ys → xs ≡ ys
written xs ys n here there so_far = sym (take_all n xs here) ∙ so_far ∙ take_all n ys there
