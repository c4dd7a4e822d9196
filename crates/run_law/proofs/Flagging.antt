-- What a board takes of flags was asked for in what was scanned.
use Rattle.std.proofs.Common.{◌≡◌, ℕ, ◌+◌, ◌<◌, ◌||◌, Bool, true, false, cond, List, [], ◌∷◌, refl, ap, arith}
use Rattle.std.specs.List.{count_by, list_any}
use Rattle.std.proofs.lemmas.List.Sums.{sum_by-cons}
use Rattle.host_journal.specs.Jobs.{resume, served_in}
use Rattle.stream_host.specs.Ran.{AreRaised}

counts_first : (p : ℕ → Bool) (x : ℕ) (xs : List ℕ) → count_by p (x ∷ xs) ≡ cond (p x) 1 0 + count_by p xs
counts_first p x xs = sum_by-cons (λ y. cond {A = ℕ} (p y) 1 0) x xs

some_pass : (p : ℕ → Bool) (xs : List ℕ) → list_any p xs ≡ true → 0 < count_by p xs
some_pass p [] any = absurd cc
some_pass p (x ∷ xs) any = by_test (p x) (count_by p (x ∷ xs)) (counts_first p x xs) any (some_pass p xs)
  where
    by_test : (t : Bool) (n : ℕ) → n ≡ cond t 1 0 + count_by p xs → (t || list_any p xs) ≡ true → (list_any p xs ≡ true → 0 < count_by p xs) → 0 < n
    by_test true n is any rest = omega arith
    by_test false n is any rest = let m = rest any in omega arith

passes_some : (p : ℕ → Bool) (xs : List ℕ) → 0 < count_by p xs → list_any p xs ≡ true
passes_some p [] some = absurd (let s : 0 < 0 = some in omega arith)
passes_some p (x ∷ xs) some = by_test (p x) (count_by p (x ∷ xs)) (counts_first p x xs) some (passes_some p xs)
  where
    by_test : (t : Bool) (n : ℕ) → n ≡ cond t 1 0 + count_by p xs → 0 < n → (0 < count_by p xs → list_any p xs ≡ true) → (t || list_any p xs) ≡ true
    by_test true n is more rest = refl
    by_test false n is more rest = rest (omega arith)

-- a byte that is no resume was scanned where it was raised
pub scanned_where_raised : (p : ℕ → Bool) (scanned raised due : List ℕ) (resumes : ℕ) → p resume ≡ false → AreRaised scanned raised due resumes → list_any p raised ≡ true → list_any p (served_in scanned) ≡ true
scanned_where_raised p scanned raised due resumes none are any =
    let some = some_pass p raised any in let all = are p in let nothing = ap (λ t. cond t resumes 0) none in
    passes_some p (served_in scanned) (omega arith)
