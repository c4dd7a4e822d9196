-- Bytes that wait, and lines that are answered.
use Rattle.std.proofs.Common.{◌≡◌, ℕ, ◌+◌, ◌≤◌, ◌<◌, Bool, true, false, cond, List, [], ◌∷◌, ◌++◌, refl, ap, ◌∙◌, append_assoc, arith}
use Rattle.std.proofs.lemmas.List.Sums.{sum_by-append}
use Rattle.status_report.specs.declared.Reply.{Reply}
use Rattle.status_report.specs.Answering.{answers_in, is_answer, lfs_in}
use Rattle.list_ports.specs.Joining.{RepliesPass}

-- a reply is answered, a line only where fewer lines were answered than were taken to their end
pub reply_told : (waiting answered got : List Reply) (taken : List ℕ) (r : Reply) → (is_answer r ≡ true → answers_in answered < lfs_in taken) → RepliesPass waiting answered got taken
    → RepliesPass (waiting ++ r ∷ []) (answered ++ r ∷ []) got taken
reply_told waiting answered got taken r due q = record {
  fifo = ap (λ (rs : List Reply). rs ++ r ∷ []) q.fifo ∙ append_assoc got waiting (r ∷ []);
  fewer = let e = sum_by-append (λ s. cond (is_answer s) 1 0) answered (r ∷ []) in let f = q.fewer in by_answer (is_answer r) due e;
}
  where
    by_answer : (t : Bool) → (t ≡ true → answers_in answered < lfs_in taken) → answers_in (answered ++ r ∷ []) ≡ answers_in answered + (0 + cond t 1 0) → answers_in (answered ++ r ∷ []) ≤ lfs_in taken
    by_answer true due e = let d = due refl in omega arith
    by_answer false due e = let f = q.fewer in omega arith
