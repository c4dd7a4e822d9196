-- Which line stands where in the generated job.
use Rattle.std.proofs.Common.{◌≡◌, ◌∙◌, ℕ, zero, suc, ◌+◌, ◌-◌, ◌<◌, ◌≤◌, [], ◌∷◌, ◌++◌, map, Some, refl, ap, arith, codes}
use Rattle.std.specs.Prelude.{slice_get}
use Rattle.std.specs.List.{range_with_len}
use Rattle.demo_job.specs.Jobs.{job_lines, move_line}

pub modes_stand : (n i : ℕ) → i ≡ 1 → slice_get (job_lines n) (i - 1) ≡ Some (codes "G21G90G94")
modes_stand n i is = rw is refl

pub feed_stands : (n i : ℕ) → i ≡ 2 → slice_get (job_lines n) (i - 1) ≡ Some (codes "F600")
feed_stands n i is = rw is refl

move_at : (a n k : ℕ) → k < n → slice_get (map move_line (range_with_len a n) ++ codes "M2" ∷ []) k ≡ Some (move_line (a + k))
move_at a zero k lt = absurd (omega arith)
move_at a (suc n) zero lt = ap (λ (i : ℕ). Some (move_line i)) (omega arith)
move_at a (suc n) (suc k) lt =
    let on : a + 1 + k ≡ a + suc k = omega arith in
    move_at (a + 1) n k (omega arith) ∙ ap (λ (i : ℕ). Some (move_line i)) on

end_at : (a n : ℕ) → slice_get (map move_line (range_with_len a n) ++ codes "M2" ∷ []) n ≡ Some (codes "M2")
end_at a zero = refl
end_at a (suc n) = end_at (a + 1) n

two_on : (n k : ℕ) → slice_get (job_lines n) (suc (suc k)) ≡ slice_get (map move_line (range_with_len 1 n) ++ codes "M2" ∷ []) k
two_on n k = refl

pub moves_stand : (n i : ℕ) → 3 ≤ i → i < n + 3 → slice_get (job_lines n) (i - 1) ≡ Some (move_line (i - 2))
moves_stand n i low high =
    let k : i - 1 ≡ suc (suc (i - 3)) = omega arith in
    let at : 1 + (i - 3) ≡ i - 2 = omega arith in
    ap (slice_get (job_lines n)) k ∙ two_on n (i - 3) ∙ move_at 1 n (i - 3) (omega arith) ∙ ap (λ (j : ℕ). Some (move_line j)) at

pub end_stands : (n i : ℕ) → i ≡ n + 3 → slice_get (job_lines n) (i - 1) ≡ Some (codes "M2")
end_stands n i is =
    let k : i - 1 ≡ suc (suc n) = omega arith in
    ap (slice_get (job_lines n)) k ∙ two_on n n ∙ end_at 1 n
