-- Lists of bytes and lines on a link.
use Rattle.std.proofs.Common.{◌≡◌, ℕ, suc, zero, ◌+◌, ◌-◌, ◌≤◌, Bool, true, false, cond, List, [], ◌∷◌, ◌++◌, length, map, drop, nat_eq, refl, ap, ◌∙◌, arith, append_assoc, length-append}
use Rattle.std.specs.List.{AllByRecursion, filter}
use Rattle.std.proofs.lemmas.Bool.Decides.{nat_tests}
use Rattle.std.proofs.lemmas.List.Sums.{sum_by-append, sum_by-cons}
use Rattle.gcode_words.specs.Comments.{cut, cut_within}
use Rattle.gcode_words.specs.declared.stripping.Comment.{Comment}
use Rattle.gcode_words.specs.declared.stripping.Comment.TheVariants.{Outside, Paren, Semicolon}
use Rattle.gcode_words.specs.Stripping.{realtime, capital, is_plain}
use Rattle.gcode_words.proofs.Scanning.{next, seen, shown}
use Rattle.gcode_words.proofs.Fed.{kept_of}
use Rattle.run_rules.specs.Lines.{HasNoLf, ended}
use Rattle.host_journal.specs.Jobs.{is_reset, behind_last, sent_text}
use Rattle.host_journal.specs.Links.{behind_lf, on_link}
use Rattle.stream_host.proofs.Texts.{sent_within}
use Rattle.status_report.specs.Answering.{lfs_in}

pub all_push : {X : Type 0} (P : X → Type 0) (xs : List X) (x : X) → AllByRecursion P xs → P x → AllByRecursion P (xs ++ x ∷ [])
all_push P [] x h p = (p, tt)
all_push P (y ∷ ys) x h p = (h.0, all_push P ys x h.1 p)

-- ---- what is kept of a line

capital_no_lf : (c : ℕ) → is_plain c ≡ true → nat_eq (capital c) 10 ≡ false
capital_no_lf c h = grind (arith, nat_tests)

kept_one : (x : ℕ) (kept : List ℕ) (b : Bool) → is_plain x ≡ b → HasNoLf (map capital kept) → HasNoLf (map capital (cond b (x ∷ kept) kept))
kept_one x kept true e h = (capital_no_lf x e, h)
kept_one x kept false e h = h

pub kept_no_lf : (xs : List ℕ) → HasNoLf (kept_of xs)
kept_no_lf [] = tt
kept_no_lf (x ∷ xs) = kept_one x (filter is_plain xs) (is_plain x) refl (kept_no_lf xs)

pub realtime_nil : realtime [] ≡ []
unfolding cut_within
realtime_nil = refl

pub sent_no_lf : (line : List ℕ) → HasNoLf (sent_text line)
sent_no_lf line = kept_no_lf (behind_last is_reset (cut line).outside)

pub all_no_lf : (lines : List (List ℕ)) → AllByRecursion HasNoLf (map sent_text lines)
all_no_lf [] = tt
all_no_lf (l ∷ ls) = (sent_no_lf l, all_no_lf ls)

few_more : (x : ℕ) (kept : List ℕ) (n : ℕ) (b : Bool) → length (map capital kept) ≤ n → length (map capital (cond b (x ∷ kept) kept)) ≤ suc n
few_more x kept n true h = omega arith
few_more x kept n false h = omega arith

few_kept : (xs : List ℕ) → length (kept_of xs) ≤ length xs
few_kept [] = omega arith
few_kept (x ∷ xs) = few_more x (filter is_plain xs) (length xs) (is_plain x) (few_kept xs)

few_seen : (s : Comment) (c : ℕ) → length (seen s c) ≤ 1
few_seen Outside c = grind arith
few_seen Paren c = omega arith
few_seen Semicolon c = omega arith

few_shown : (s : Comment) (xs : List ℕ) → length (shown s xs) ≤ length xs
few_shown s [] = omega arith
few_shown s (x ∷ xs) = let m = few_shown (next s x) xs in let f = few_seen s x in let l = length-append (seen s x) (shown (next s x) xs) in omega arith

pub few_sent : (line : List ℕ) → length (sent_text line) ≤ length line
few_sent line = let k = few_kept (behind_last is_reset (cut line).outside) in let w = sent_within line in let s = few_shown Outside line in omega arith

-- ---- what stands behind a line feed

pub lfs_push : (xs : List ℕ) (b : ℕ) → lfs_in xs ≤ lfs_in (xs ++ b ∷ [])
lfs_push xs b = let e = sum_by-append (λ c. cond (nat_eq c 10) 1 0) xs (b ∷ []) in omega arith

behind_none : (xs : List ℕ) → behind_lf 0 xs ≡ xs
behind_none [] = refl
behind_none (b ∷ bs) = refl

lfs_first : (b : ℕ) (xs : List ℕ) → lfs_in (b ∷ xs) ≡ cond (nat_eq b 10) 1 0 + lfs_in xs
lfs_first b xs = sum_by-cons (λ c. cond (nat_eq c 10) 1 0) b xs

behind_by : (x : ℕ) (xs ys : List ℕ) (t : Bool) (one both : List ℕ) → both ≡ one ++ ys → cond t (x ∷ xs ++ ys) both ≡ cond t (x ∷ xs) one ++ ys
behind_by x xs ys true one both e = refl
behind_by x xs ys false one both e = e

pub behind_append : (k : ℕ) (xs ys : List ℕ) → k ≤ lfs_in xs → behind_lf k (xs ++ ys) ≡ behind_lf k xs ++ ys
behind_append k [] ys few = let z : k ≡ 0 = (let f : k ≤ 0 = few in omega arith) in ap (λ n. behind_lf n ys) z ∙ behind_none ys
behind_append k (x ∷ xs) ys few =
    let rest : k - cond (nat_eq x 10) 1 0 ≤ lfs_in xs = (let e = lfs_first x xs in omega arith) in
    behind_by x xs ys (nat_eq k 0) (behind_lf (k - cond (nat_eq x 10) 1 0) xs) (behind_lf (k - cond (nat_eq x 10) 1 0) (xs ++ ys)) (behind_append (k - cond (nat_eq x 10) 1 0) xs ys rest)

behind_line : (k : ℕ) (line rest : List ℕ) → HasNoLf line → behind_lf (suc k) (line ++ 10 ∷ rest) ≡ behind_lf k rest
behind_line k [] rest h = let e : suc k - 1 ≡ k = omega arith in let z : nat_eq (suc k) 0 ≡ false = grind (arith, nat_tests) in rw (z, e) refl
behind_line k (c ∷ cs) rest h = let e : suc k - 0 ≡ suc k = omega arith in let z : nat_eq (suc k) 0 ≡ false = grind (arith, nat_tests) in rw (z, h.0, e) (behind_line k cs rest h.1)

pub behind_ended : (k : ℕ) (lines : List (List ℕ)) → AllByRecursion HasNoLf lines → behind_lf k (ended lines) ≡ ended (drop k lines)
behind_ended zero lines h = behind_none (ended lines)
behind_ended (suc k) [] h = refl
behind_ended (suc k) (l ∷ ls) h = ap (behind_lf (suc k)) (append_assoc l (10 ∷ []) (ended ls)) ∙ behind_line k l (ended ls) h.0 ∙ behind_ended k ls h.1

-- behind at most the last LF that was taken stands all that was not taken
pub behind_taken : (k : ℕ) (taken bytes : List ℕ) → k ≤ lfs_in taken → length bytes ≤ length (behind_lf k (taken ++ bytes))
behind_taken k taken bytes few = let e = ap length (behind_append k taken bytes few) in let l = length-append (behind_lf k taken) bytes in omega arith

-- as many line feeds as lines
pub lfs_linked : (lines : List (List ℕ)) → lfs_in (on_link lines) ≡ length lines
lfs_linked [] = refl
lfs_linked (l ∷ ls) =
    let a = sum_by-append (λ c. cond (nat_eq c 10) 1 0) (sent_text l ++ 10 ∷ []) (on_link ls) in
    let b = sum_by-append (λ c. cond (nat_eq c 10) 1 0) (sent_text l) (10 ∷ []) in
    let n = no_lfs (sent_text l) (sent_no_lf l) in let m = lfs_linked ls in omega arith
  where
    by_test : (t : Bool) (n m : ℕ) → t ≡ false → n ≡ cond t 1 0 + m → m ≡ 0 → n ≡ 0
    by_test true n m none e z = absurd cc
    by_test false n m none e z = omega arith

    no_lfs : (xs : List ℕ) → HasNoLf xs → lfs_in xs ≡ 0
    no_lfs [] h = refl
    no_lfs (x ∷ xs) h = by_test (nat_eq x 10) (lfs_in (x ∷ xs)) (lfs_in xs) h.0 (sum_by-cons (λ c. cond (nat_eq c 10) 1 0) x xs) (no_lfs xs h.1)
