-- The kept bytes of a line, one more at a time.
use Rattle.std.proofs.Common.{◌≡◌, ℕ, ◌≤◌, ◌<◌, true, false, List, [], ◌∷◌, ◌++◌, take, length, nat_lt, sym, ap, ◌∙◌, arith, length-append, min}
use Rattle.std.proofs.lemmas.Bool.Decides.{nat_tests}
use Rattle.std.proofs.lemmas.List.{take-append-le, take_all, length-take}
use Rattle.line_interpreter.specs.Keeping.{Keeping, IsKept}

-- a kept byte with room
room_for : (n : ℕ) (kept all : List ℕ) (y : ℕ) → kept ≡ take n all → length kept < n → (kept ++ y ∷ [] ≡ take n (all ++ y ∷ [])) × (nat_lt n (length all) ≡ nat_lt n (length (all ++ y ∷ [])))
room_for n kept all y is room =
    let size : length kept ≡ min n (length all) = ap length is ∙ length-take n all in
    let whole : kept ≡ all = is ∙ take_all n all (omega arith) in
    let fits : length (all ++ y ∷ []) ≤ n = simp length-append (omega arith) in
    (rw whole (sym (take_all n (all ++ y ∷ []) fits)), grind (arith, nat_tests, size, fits))

-- a kept byte without room
no_room : (n : ℕ) (kept all : List ℕ) (y : ℕ) → kept ≡ take n all → n ≤ length kept → (kept ≡ take n (all ++ y ∷ [])) × (true ≡ nat_lt n (length (all ++ y ∷ [])))
no_room n kept all y is full =
    let size : length kept ≡ min n (length all) = ap length is ∙ length-take n all in
    (is ∙ sym (take-append-le n all (y ∷ []) (omega arith)), simp length-append (grind (arith, nat_tests, size)))

pub pushed : (line : Keeping) (kept : List ℕ) (y : ℕ) → IsKept line kept → length line.bytes < 79 → IsKept (record line { bytes = line.bytes ++ y ∷ [] }) (kept ++ y ∷ [])
pushed line kept y is room =
    let more = room_for 79 line.bytes kept y is.bytes_are room in record {
      bytes_are = more.0;
      over_is = is.over_is ∙ more.1;
    }

pub passed_over : (line : Keeping) (kept : List ℕ) (y : ℕ) → IsKept line kept → 79 ≤ length line.bytes → IsKept (record line { over = true }) (kept ++ y ∷ [])
passed_over line kept y is full =
    let more = no_room 79 line.bytes kept y is.bytes_are full in record {
      bytes_are = more.0;
      over_is = more.1;
    }

pub whole_line : (line : Keeping) (kept : List ℕ) → IsKept line kept → line.over ≡ false → (line.bytes ≡ kept) × (length kept ≤ 79)
whole_line line kept is under =
    let few : nat_lt 79 (length kept) ≡ false = sym is.over_is ∙ under in
    let fits : length kept ≤ 79 = grind (arith, nat_tests) in (is.bytes_are ∙ take_all 79 kept fits, fits)
