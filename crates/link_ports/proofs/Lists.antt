-- Logs of which the newest stands first, beside lists in the order in which things were done.
use Rattle.std.proofs.Common.{◌≡◌, ℕ, zero, suc, ◌+◌, ◌-◌, ◌≤◌, ◌<◌, Bool, true, false, cond, nat_eq, nat_le, List, [], ◌∷◌, ◌++◌, length, reverse, drop, refl, sym, ap, ◌∙◌, arith, length-append}
use Rattle.std.proofs.lemmas.List.Sorted.{sum_by-IsPermutation, IsPermutation-reverse}
use Rattle.std.proofs.lemmas.Bool.Decides.{nat_tests}
use Rattle.std.proofs.lemmas.Grind.{reverse_onto}
use Rattle.std.proofs.lemmas.List.{length-reverse, drop_all}
use Rattle.status_report.specs.declared.Reply.{Reply}
use Rattle.status_report.specs.declared.Reply.TheVariants as replies
use Rattle.status_report.specs.declared.reports.Report.{Report}
use Rattle.status_report.specs.Answering.{lfs_in}
use Rattle.status_report.proofs.Answered.{lfs_first}
use Rattle.board_journal.specs.Ports.{PortStep, said}
use Rattle.board_journal.specs.Ports.PortStep.{answered, reported}
use Rattle.serial_ring.specs.Lists as link
use Rattle.host_journal.specs.Links as host

pub reverse_on : {X : Type 0} (x : X) (xs : List X) → reverse (x ∷ xs) ≡ reverse xs ++ x ∷ []
reverse_on x xs = reverse_onto xs x []

pub same_lines : (bytes : List ℕ) → lfs_in (reverse bytes) ≡ lfs_in bytes
same_lines bytes = sum_by-IsPermutation (λ (b : ℕ). cond (nat_eq b 10) 1 0) bytes (reverse bytes) (IsPermutation-reverse bytes)

-- what holds of an answer, and of a report that is answered, holds of what it is to answer with any reply
pub by_said : (Q : Reply → PortStep → Type 0) → ((r : Reply) → Q r (answered r)) → ((p : Report) → Q (replies.Report p) (reported p)) → (r : Reply) → Q r (said r)
by_said Q other report replies.Banner = other replies.Banner
by_said Q other report replies.Ok = other replies.Ok
by_said Q other report (replies.Error n) = other (replies.Error n)
by_said Q other report (replies.Alarm n) = other (replies.Alarm n)
by_said Q other report (replies.Message m) = other (replies.Message m)
by_said Q other report (replies.Report p) = report p
by_said Q other report (replies.Setting n v) = other (replies.Setting n v)
by_said Q other report (replies.Modes m) = other (replies.Modes m)
by_said Q other report (replies.Offset row at) = other (replies.Offset row at)
by_said Q other report replies.Bye = other replies.Bye

-- ---- bytes behind lines

fewer_left : (is : Bool) (k n : ℕ) → suc k ≤ cond is 1 0 + n → suc k - cond is 1 0 ≤ n
fewer_left true k n le = omega arith
fewer_left false k n le = omega arith

not_zero : (k : ℕ) → nat_eq (suc k) 0 ≡ false
not_zero k = grind (arith, nat_tests)

-- behind no line stand all bytes; else the first of them is not there
behind_later : (k y : ℕ) (bytes : List ℕ) → nat_eq k 0 ≡ false → host.behind_lf k (y ∷ bytes) ≡ host.behind_lf (k - cond (nat_eq y 10) 1 0) bytes
behind_later k y bytes e = ap (λ is. cond is (y ∷ bytes) (host.behind_lf (k - cond (nat_eq y 10) 1 0) bytes)) e

-- one byte more behind a line that has ended
one_longer : (bytes : List ℕ) (k b : ℕ) → k ≤ lfs_in bytes → length (host.behind_lf k (bytes ++ b ∷ [])) ≡ length (host.behind_lf k bytes) + 1
one_longer [] zero b le = refl
one_longer [] (suc k) b le = absurd (let z : suc k ≤ 0 = le in omega arith)
one_longer (y ∷ bytes) zero b le = let l = length-append bytes (b ∷ []) in omega arith
one_longer (y ∷ bytes) (suc k) b le =
    ap length (behind_later (suc k) y (bytes ++ b ∷ []) (not_zero k))
    ∙ (one_longer bytes (suc k - cond (nat_eq y 10) 1 0) b (fewer_left (nat_eq y 10) k (lfs_in bytes) (let e = lfs_first y bytes in omega arith))
    ∙ ap (λ (l : List ℕ). length l + 1) (sym (behind_later (suc k) y bytes (not_zero k))))

behind_by : (is : Bool) (k n m : ℕ) (b : ℕ) (xs : List ℕ) (l : ℕ) → nat_le k n ≡ is → (k ≤ n → length xs + 1 ≤ l) → length (cond is (b ∷ xs) []) ≤ l
behind_by true k n m b xs l e more = let le : k ≤ n = at_most k n e in let r = more le in omega arith
  where
    at_most : (a b : ℕ) → nat_le a b ≡ true → a ≤ b
    at_most a b e = grind (arith, nat_tests)
behind_by false k n m b xs l e more = omega arith

pub fewer_behind : (k : ℕ) (bytes : List ℕ) → length (link.since_lf k bytes) ≤ length (host.behind_lf k (reverse bytes))
fewer_behind k [] = omega arith
fewer_behind k (b ∷ bytes) = behind_by (nat_le k (lfs_in bytes)) k (lfs_in bytes) 0 b (link.since_lf k bytes) (length (host.behind_lf k (reverse (b ∷ bytes)))) refl
    (λ le. let m = fewer_behind k bytes in
    let o = one_longer (reverse bytes) k b (let s = same_lines bytes in omega arith) in
    let e = ap (λ l. length (host.behind_lf k l)) (reverse_on b bytes) in omega arith)

-- ---- bytes behind a mark

-- one byte more behind a mark that is reached
drop_more : (n : ℕ) (bytes : List ℕ) (b : ℕ) → n ≤ length bytes → drop n (bytes ++ b ∷ []) ≡ drop n bytes ++ b ∷ []
drop_more zero bytes b le = refl
drop_more (suc n) [] b le = absurd (let z : suc n ≤ 0 = le in omega arith)
drop_more (suc n) (y ∷ bytes) b le = drop_more n bytes b (omega arith)

since_by : (is : Bool) (n : ℕ) (b : ℕ) (bytes : List ℕ) → nat_le n (length bytes) ≡ is → (n ≤ length bytes → reverse (link.since n bytes) ≡ drop n (reverse bytes)) → reverse (cond is (b ∷ link.since n bytes) []) ≡ drop n (reverse bytes ++ b ∷ [])
since_by true n b bytes e same =
    let le : n ≤ length bytes = grind (arith, nat_tests) in
    let r = length-reverse bytes in
    reverse_on b (link.since n bytes) ∙ ap (λ (z : List ℕ). z ++ b ∷ []) (same le) ∙ sym (drop_more n (reverse bytes) b (omega arith))
since_by false n b bytes e same =
    let lt : length bytes < n = grind (arith, nat_tests) in
    let r = length-reverse bytes in let l = length-append (reverse bytes) (b ∷ []) in
    sym (drop_all n (reverse bytes ++ b ∷ []) (omega arith))

pub since_drops : (n : ℕ) (bytes : List ℕ) → reverse (link.since n bytes) ≡ drop n (reverse bytes)
since_drops n [] = sym (drop_all n [] (omega arith))
since_drops n (b ∷ bytes) = since_by (nat_le n (length bytes)) n b bytes refl (λ le. since_drops n bytes) ∙ ap (drop n) (sym (reverse_on b bytes))

pub same_lines_behind : (n : ℕ) (bytes : List ℕ) → lfs_in (drop n (reverse bytes)) ≡ lfs_in (link.since n bytes)
same_lines_behind n bytes = ap lfs_in (sym (since_drops n bytes)) ∙ same_lines (link.since n bytes)
