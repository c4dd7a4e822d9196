-- What is done once so many lines are answered holds what the last part's answered lines ask for, up to the last that settles.
use Rattle.std.proofs.Common.{◌≡◌, ℕ, suc, ◌+◌, ◌≤◌, Bool, true, false, ◌||◌, cond, List, [], ◌∷◌, ◌++◌, length, take, sym, refl, ap, ◌∙◌, subst, append_assoc, arith}
use Rattle.std.specs.List.{list_any, sum}
use Rattle.std.proofs.lemmas.List.{append-nil, length-append, take-map, take_at, take-append-le}
use Rattle.run_rules.specs.Cuts.{ticks_asked_for, counts_asked}
use Rattle.run_rules.specs.Reports.{settles, settled_to, fewest}
use Rattle.run_rules.specs.Work.{Outcome, asks}
use Rattle.run_texts.specs.Recorded.{ticks_for_all, settled_ticks}
use Rattle.run_texts.proofs.Events.{ticks_on}
use Rattle.step_line.specs.Asking.{ticks_of_all}
use Rattle.std.proofs.lemmas.List.Sums.{sum_by-append, sum_by-cons}

-- ---- sums

sum_both : (ms ns : List ℕ) → sum (ms ++ ns) ≡ sum ms + sum ns
sum_both ms ns = sum_by-append (λ n. n) ms ns

sum_first : (n : ℕ) (ns : List ℕ) → sum (n ∷ ns) ≡ n + sum ns
sum_first n ns = sum_by-cons (λ n. n) n ns

asked_sum : (os : List Outcome) → sum (counts_asked os) ≡ length (ticks_for_all os)
asked_sum [] = refl
asked_sum (o ∷ os) =
    let more = asked_sum os in
    let both = ap length (ticks_on (o ∷ []) os) ∙ length-append (ticks_for_all (o ∷ [])) (ticks_for_all os) in
    let one : length (ticks_for_all (o ∷ [])) ≡ ticks_asked_for o = ap (λ (asked : List _). length (ticks_of_all asked)) (append-nil (asks o.work)) in
    let first = sum_first (ticks_asked_for o) (counts_asked os) in
    omega (arith, more, both, one, first)

-- ---- lines that settle

any_behind : (os more : List Outcome) → list_any settles more ≡ true → list_any settles (os ++ more) ≡ true
any_behind [] more is = is
any_behind (o ∷ os) more is = ap (λ t. settles o || t) (any_behind os more is) ∙ or_true (settles o)
  where
    or_true : (t : Bool) → (t || true) ≡ true
    or_true true = refl
    or_true false = refl

settled_behind : (os more : List Outcome) → list_any settles more ≡ true → settled_to (os ++ more) ≡ length os + settled_to more
settled_behind [] more is = omega arith
settled_behind (o ∷ os) more is =
    let rest = settled_behind os more is in
    ap (λ t. cond t (settled_to (os ++ more) + 1) 0) (any_behind (o ∷ os) more is) ∙ (omega (arith, rest))

none_settled : (os : List Outcome) → list_any settles os ≡ false → settled_to os ≡ 0
none_settled [] none = refl
none_settled (o ∷ os) none = ap (λ t. cond t (settled_to os + 1) 0) none

by_any : (o : Outcome) (os : List Outcome) (t : Bool) → list_any settles (o ∷ os) ≡ t → settled_to os ≤ length os → settled_to (o ∷ os) ≤ suc (length os)
by_any o os true is rest = subst (λ n. n ≤ suc (length os)) (sym (ap (λ t. cond t (settled_to os + 1) 0) is)) (omega (arith, rest))
by_any o os false is rest = subst (λ n. n ≤ suc (length os)) (sym (ap (λ t. cond t (settled_to os + 1) 0) is)) (omega arith)

within_lines : (os : List Outcome) → settled_to os ≤ length os
within_lines [] = omega arith
within_lines (o ∷ os) = by_any o os (list_any settles (o ∷ os)) refl (within_lines os)

-- ---- the last part

-- the counts of the first n of some lines, and of all before them
counts_to : (counts : List ℕ) (lines begun : List Outcome) (n : ℕ) → n ≤ length lines → sum (take (length counts + n) (counts ++ counts_asked (lines ++ begun))) ≡ sum counts + length (ticks_for_all (take n lines))
counts_to counts lines begun n few =
    ap sum (take_behind counts (counts_asked (lines ++ begun)) n)
    ∙ sum_both counts (take n (counts_asked (lines ++ begun)))
    ∙ ap (λ k. sum counts + k)
    (ap sum (take-map ticks_asked_for n (lines ++ begun)) ∙ ap (λ (os : List Outcome). sum (counts_asked os)) (take-append-le n lines begun few) ∙ asked_sum (take n lines))
  where
    take_behind : (ms ns : List ℕ) (k : ℕ) → take (length ms + k) (ms ++ ns) ≡ ms ++ take k ns
    take_behind [] ns k = ap (λ j. take j ns) (let e : 0 + k ≡ k = omega arith in e)
    take_behind (m ∷ ms) ns k = ap (λ j. take j (m ∷ (ms ++ ns))) (let e : suc (length ms) + k ≡ suc (length ms + k) = omega arith in e) ∙ ap (λ (xs : List ℕ). m ∷ xs) (take_behind ms ns k)

pub answered_done : (early lines begun : List Outcome) (counts : List ℕ) (done : ℕ) → length counts ≡ length early
    → fewest (length early + length lines) (early ++ (lines ++ begun)) (counts ++ counts_asked (lines ++ begun)) ≤ sum counts + done → settled_ticks lines ≤ done
answered_done early lines begun counts done long least = whether (list_any settles lines) refl
  where
    answered : take (length early + length lines) (early ++ (lines ++ begun)) ≡ early ++ lines
    answered = ap (take (length early + length lines)) (sym (append_assoc early lines begun)) ∙ take_at (early ++ lines) begun (length early + length lines) (length-append early lines)

    whether : (t : Bool) → list_any settles lines ≡ t → settled_ticks lines ≤ done
    whether true some =
        let to : settled_to (take (length early + length lines) (early ++ (lines ++ begun))) ≡ length counts + settled_to lines =
        ap settled_to answered ∙ settled_behind early lines some ∙ ap (λ n. n + settled_to lines) (sym long) in
        let all : fewest (length early + length lines) (early ++ (lines ++ begun)) (counts ++ counts_asked (lines ++ begun)) ≡ sum counts + settled_ticks lines =
        ap (λ n. sum (take n (counts ++ counts_asked (lines ++ begun)))) to ∙ counts_to counts lines begun (settled_to lines) (within_lines lines) in
        omega (arith, all, least)
    whether false none = subst (λ n. length (ticks_for_all (take n lines)) ≤ done) (sym (none_settled lines none)) (omega arith)
