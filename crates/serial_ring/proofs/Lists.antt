-- Bytes behind lines and behind marks, and lines answered.
use Rattle.std.proofs.Common.{◌≡◌, ℕ, ◌≤◌, true, nat_le, List, [], ◌∷◌, ◌++◌, length, refl, ap, arith, length-append}
use Rattle.std.proofs.lemmas.Bool.Decides.{nat_tests}
use Rattle.status_report.specs.declared.Reply.{Reply}
use Rattle.status_report.specs.Replies.{IsReply}
use Rattle.status_report.proofs.Answered.{lfs_first}
use Rattle.serial_ring.specs.Lists.{since_lf, since, AreReplies}
use Rattle.status_report.specs.Answering.{lfs_in}

pub more_lfs : (rest taken : List ℕ) → lfs_in taken ≤ lfs_in (rest ++ taken)
more_lfs [] taken = omega arith
more_lfs (b ∷ rest) taken = let m = more_lfs rest taken in let l = lfs_first b (rest ++ taken) in omega arith

pub stands : (k n : ℕ) → k ≤ n → nat_le k n ≡ true
stands k n le = grind (arith, nat_tests)

-- what is not taken stands behind each line whose end was taken
pub unread_behind : (k : ℕ) (rest taken : List ℕ) → k ≤ lfs_in taken → length rest ≤ length (since_lf k (rest ++ taken))
unread_behind k [] taken le = omega arith
unread_behind k (b ∷ rest) taken le =
    let m = more_lfs rest taken in
    let s = stands k (lfs_in (rest ++ taken)) (omega arith) in
    rw s (let i = unread_behind k rest taken le in omega arith)

-- what comes behind a mark, when that is reached
pub since_on : (n : ℕ) (rest taken : List ℕ) → n ≤ length taken → since n (rest ++ taken) ≡ rest ++ since n taken
since_on n [] taken le = refl
since_on n (b ∷ rest) taken le =
    let l = length-append rest taken in
    let s = stands n (length (rest ++ taken)) (omega arith) in
    rw s (ap (λ z. b ∷ z) (since_on n rest taken le))

pub text_of : (rest got : List Reply) (r : Reply) → AreReplies (rest ++ r ∷ got) → IsReply r
text_of [] got r texts = texts.0
text_of (x ∷ rest) got r texts = text_of rest got r texts.1
