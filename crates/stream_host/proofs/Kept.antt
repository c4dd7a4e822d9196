-- The kept bytes of a line, one more at a time.
use Rattle.std.proofs.Common.{◌≡◌, ℕ, ◌+◌, ◌≤◌, ◌<◌, ◌||◌, Bool, true, false, refl, List, [], ◌∷◌, ◌++◌, take, length, nat_lt, sym, ap, ◌∙◌, arith, length-append, min}
use Rattle.std.proofs.lemmas.Bool.Decides.{nat_tests}
use Rattle.std.proofs.lemmas.List.{take-append-le, take_all, length-take}

-- a kept byte with room
pub room_for : (n : ℕ) (kept all : List ℕ) (y : ℕ) → kept ≡ take n all → length kept < n → (kept ++ y ∷ [] ≡ take n (all ++ y ∷ [])) × (nat_lt n (length all) ≡ nat_lt n (length (all ++ y ∷ [])))
room_for n kept all y is room =
    let size : length kept ≡ min n (length all) = ap length is ∙ length-take n all in
    let whole : kept ≡ all = is ∙ take_all n all (omega arith) in
    let fits : length (all ++ y ∷ []) ≤ n = simp length-append (omega arith) in
    (rw whole (sym (take_all n (all ++ y ∷ []) fits)), grind (arith, nat_tests, size, fits))

-- a kept byte without room
pub no_room : (n : ℕ) (kept all : List ℕ) (y : ℕ) → kept ≡ take n all → n ≤ length kept → (kept ≡ take n (all ++ y ∷ [])) × (true ≡ nat_lt n (length (all ++ y ∷ [])))
no_room n kept all y is full =
    let size : length kept ≡ min n (length all) = ap length is ∙ length-take n all in
    (is ∙ sym (take-append-le n all (y ∷ []) (omega arith)), simp length-append (grind (arith, nat_tests, size)))

pub begun_more : (xs : List ℕ) (b : ℕ) → true ≡ nat_lt 0 (length (xs ++ b ∷ []))
begun_more xs b = simp length-append (grind (arith, nat_tests))

pub kept_whole : (n : ℕ) (kept all : List ℕ) → kept ≡ take n all → nat_lt n (length all) ≡ false → kept ≡ all
kept_whole n kept all is under = let fits : length all ≤ n = grind (arith, nat_tests) in is ∙ take_all n all fits

-- with room the line is no longer than before
pub not_long : (long : Bool) (n : ℕ) (kept all : List ℕ) (y : ℕ) → kept ≡ take n all → length kept < n → long ≡ (long || nat_lt n (length (all ++ y ∷ [])))
not_long long n kept all y is room = let same = (room_for n kept all y is room).1 in by_test long (short (length all) (length (all ++ y ∷ [])) (let size : length kept ≡ min n (length all) = ap length is ∙ length-take n all in omega arith) (length-append all (y ∷ [])))
  where
    short : (a b : ℕ) → a < n → b ≡ a + 1 → nat_lt n b ≡ false
    short a b less more = grind (arith, nat_tests)

    by_test : (t : Bool) → nat_lt n (length (all ++ y ∷ [])) ≡ false → t ≡ (t || nat_lt n (length (all ++ y ∷ [])))
    by_test true e = refl
    by_test false e = sym e

-- without room it is too long
pub is_long : (long : Bool) (n : ℕ) (kept all : List ℕ) (y : ℕ) → kept ≡ take n all → n ≤ length kept → true ≡ (long || nat_lt n (length (all ++ y ∷ [])))
is_long true n kept all y is full = refl
is_long false n kept all y is full = (no_room n kept all y is full).1
