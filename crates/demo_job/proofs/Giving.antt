-- What is left of the generated job while it is given.
use Rattle.std.proofs.Common.{◌≡◌, ◌∙◌, ℕ, zero, suc, ◌+◌, ◌-◌, ◌<◌, ◌≤◌, List, [], ◌∷◌, ◌++◌, length, take, drop, Option, Some, None, refl, sym, ap, arith, min, append_assoc, length-append, length-drop}
use Rattle.std.proofs.lemmas.List.{drop_all, length-map}
use Rattle.std.proofs.lemmas.List.FromFn.{length-range_with_len}
use Rattle.std.specs.Prelude.{slice_get, unwrap_or, option_map}
use Rattle.demo_job.specs.Jobs.{job_lines, ended}
use Rattle.demo_job.specs.Giving.{line_length}

-- what stands at a place and behind it
pub stands : (xs : List (List ℕ)) (k : ℕ) (x : List ℕ) → slice_get xs k ≡ Some x → drop k xs ≡ x ∷ drop (k + 1) xs
stands [] zero x e = absurd (cc)
stands [] (suc k) x e = absurd (cc)
stands (y ∷ ys) zero x e = let same : y ≡ x = ap (λ (o : Option (List ℕ)). unwrap_or o y) e in ap (λ (z : List ℕ). z ∷ ys) same
stands (y ∷ ys) (suc k) x e =
    let on : suc (k + 1) ≡ suc k + 1 = omega arith in
    stands ys k x e ∙ ap (λ (m : ℕ). x ∷ drop m (y ∷ ys)) on

pub drop_front : (g : ℕ) (a b : List ℕ) → g ≤ length a → drop g (a ++ b) ≡ drop g a ++ b
drop_front zero a b h = refl
drop_front (suc g) [] b h = absurd (omega arith)
drop_front (suc g) (x ∷ a) b h = drop_front g a b (omega arith)

pub drop_both : (g c : ℕ) (a : List ℕ) → drop c (drop g a) ≡ drop (g + c) a
drop_both zero c a = let on : c ≡ zero + c = omega arith in ap (λ (m : ℕ). drop m a) on
drop_both (suc g) c [] = drop_all c [] (omega arith) ∙ sym (drop_all (suc g + c) [] (omega arith))
drop_both (suc g) c (x ∷ a) = let on : suc (g + c) ≡ suc g + c = omega arith in drop_both g c a ∙ ap (λ (m : ℕ). drop m (x ∷ a)) on

pub front_back : (c : ℕ) (a : List ℕ) → a ≡ take c a ++ drop c a
front_back zero a = refl
front_back (suc c) [] = refl
front_back (suc c) (x ∷ a) = ap (λ (t : List ℕ). x ∷ t) (front_back c a)

-- what is left of the job, by how many lines are passed and how much of the next is given
pub left : (n passed given : ℕ) (line : List ℕ) → slice_get (job_lines n) passed ≡ Some line → given ≤ length line + 1
    → drop given (ended (drop passed (job_lines n))) ≡ drop given (line ++ 10 ∷ []) ++ ended (drop (passed + 1) (job_lines n))
left n passed given line at few =
    ap (λ (ls : List (List ℕ)). drop given (ended ls)) (stands (job_lines n) passed line at)
    ∙ drop_front given (line ++ 10 ∷ []) (ended (drop (passed + 1) (job_lines n))) (simp length-append (omega arith))

-- a part of the line is given
pub part_given : (n passed given count : ℕ) (line : List ℕ) → slice_get (job_lines n) passed ≡ Some line → given + count ≤ length line + 1
    → drop given (ended (drop passed (job_lines n)))
    ≡ take count (drop given (line ++ 10 ∷ [])) ++ drop (given + count) (ended (drop passed (job_lines n)))
part_given n passed given count line at few =
    let rest = drop given (line ++ 10 ∷ []) in
    let tail = ended (drop (passed + 1) (job_lines n)) in
    left n passed given line at (omega arith)
    ∙ ap (λ (t : List ℕ). t ++ tail) (front_back count rest)
    ∙ append_assoc (take count rest) (drop count rest) tail
    ∙ ap (λ (t : List ℕ). take count rest ++ t) (ap (λ (t : List ℕ). t ++ tail) (drop_both given count (line ++ 10 ∷ [])) ∙ sym (left n passed (given + count) line at few))

-- the whole of it is given
pub line_given : (n passed : ℕ) (line : List ℕ) → slice_get (job_lines n) passed ≡ Some line
    → drop (length line + 1) (ended (drop passed (job_lines n))) ≡ ended (drop (passed + 1) (job_lines n))
line_given n passed line at =
    left n passed (length line + 1) line at (omega arith)
    ∙ ap (λ (t : List ℕ). t ++ ended (drop (passed + 1) (job_lines n))) (drop_all (length line + 1) (line ++ 10 ∷ []) (simp length-append (omega arith)))

pub its_length : (n passed : ℕ) (line : List ℕ) → slice_get (job_lines n) passed ≡ Some line → line_length n passed ≡ length line + 1
its_length n passed line at = ap (λ (o : Option (List ℕ)). unwrap_or (option_map (λ (l : List ℕ). length l + 1) o) 1) at

pub some_length : (n passed : ℕ) → 0 < line_length n passed
some_length n passed = go (slice_get (job_lines n) passed)
  where
    go : (o : Option (List ℕ)) → 0 < unwrap_or (option_map (λ (l : List ℕ). length l + 1) o) 1
    go None = omega arith
    go (Some l) = omega arith

lines_long : (n : ℕ) → length (job_lines n) ≡ n + 3
lines_long n = simp (length-append, length-map, length-range_with_len 1 n) (omega arith)

-- behind the last line nothing is left
pub all_given : (n given : ℕ) → given < line_length n (n + 3) → drop given (ended (drop (n + 3) (job_lines n))) ≡ []
all_given n given few = ap (λ (ls : List (List ℕ)). drop given (ended ls)) (drop_all (n + 3) (job_lines n) (omega (arith, lines_long n))) ∙ drop_nothing given
  where
    drop_nothing : (g : ℕ) → drop g (ended []) ≡ []
    drop_nothing zero = refl
    drop_nothing (suc g) = refl

-- ---- one read

take_front : (c : ℕ) (a b : List ℕ) → c ≤ length a → take c (take c a ++ b) ≡ take c a
take_front zero a b h = refl
take_front (suc c) [] b h = absurd (omega arith)
take_front (suc c) (x ∷ a) b h = ap (λ (t : List ℕ). x ∷ t) (take_front c a b (omega arith))

-- what stands in the buffer is what the job loses
pub read_part : (n passed given count : ℕ) (line was copied behind : List ℕ) → was ≡ drop given (ended (drop passed (job_lines n)))
    → slice_get (job_lines n) passed ≡ Some line → given ≤ length line + 1 → copied ≡ take count (drop given (line ++ 10 ∷ [])) → count ≤ length line + 1 - given
    → was ≡ take count (copied ++ behind) ++ drop (given + count) (ended (drop passed (job_lines n)))
read_part n passed given count line was copied behind is at early copy few =
    let rest = drop given (line ++ 10 ∷ []) in
    let long : length rest ≡ length line + 1 - given = length-drop given (line ++ 10 ∷ []) ∙ ap (λ (m : ℕ). m - given) (length-append line (10 ∷ [])) in
    is ∙ part_given n passed given count line at (omega arith)
    ∙ ap (λ (t : List ℕ). t ++ drop (given + count) (ended (drop passed (job_lines n))))
    (sym (ap (λ (t : List ℕ). take count (t ++ behind)) copy ∙ take_front count rest behind (omega (arith, long))))

-- where there is room, a read gives something
pub gives_some : (given count : ℕ) (line copied buf : List ℕ) → given < length line + 1 → count ≡ min (length line + 1 - given) (length buf)
    → copied ≡ take count (drop given (line ++ 10 ∷ [])) → count ≡ 0 → 0 < length (copied ++ drop count buf) → ⊥
gives_some given count line copied buf early is copy none room =
    let empty : length copied ≡ 0 = ap length (copy ∙ ap (λ (m : ℕ). take m (drop given (line ++ 10 ∷ []))) none) in
    let both : length (copied ++ drop count buf) ≡ length copied + (length buf - count) = length-append copied (drop count buf) ∙ ap (λ (m : ℕ). length copied + m) (length-drop count buf) in
    omega (arith, both)
