-- How many lines end, and are answered, in lists that go together.
use Rattle.std.proofs.Common.{◌≡◌, ℕ, ◌+◌, cond, nat_eq, List, ◌∷◌, ◌++◌}
use Rattle.std.proofs.lemmas.List.Sums.{sum_by-append, sum_by-cons}
use Rattle.status_report.specs.declared.Reply.{Reply}
use Rattle.status_report.specs.Answering.{lfs_in, is_answer, answers_in}

pub lfs_first : (b : ℕ) (bytes : List ℕ) → lfs_in (b ∷ bytes) ≡ cond (nat_eq b 10) 1 0 + lfs_in bytes
lfs_first b bytes = sum_by-cons (λ c. cond (nat_eq c 10) 1 0) b bytes

pub lfs_on : (xs ys : List ℕ) → lfs_in (xs ++ ys) ≡ lfs_in xs + lfs_in ys
lfs_on xs ys = sum_by-append (λ c. cond (nat_eq c 10) 1 0) xs ys

pub answers_first : (r : Reply) (rs : List Reply) → answers_in (r ∷ rs) ≡ cond (is_answer r) 1 0 + answers_in rs
answers_first r rs = sum_by-cons (λ s. cond (is_answer s) 1 0) r rs

pub answers_on : (rs ss : List Reply) → answers_in (rs ++ ss) ≡ answers_in rs + answers_in ss
answers_on rs ss = sum_by-append (λ s. cond (is_answer s) 1 0) rs ss
