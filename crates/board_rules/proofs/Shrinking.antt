-- How many ticks count behind a cut, or a halt: no more than before up to a line that settles, and no less than what was given.
use Rattle.std.proofs.Common.{◌≡◌, ℕ, zero, suc, ◌+◌, ◌-◌, ◌≤◌, ◌<◌, List, [], ◌∷◌, ◌++◌, length, take, Bool, true, false, nat_le, sym, refl, ap, ◌∙◌, arith, append-nil, length-append}
use Rattle.std.specs.List.{sum}
use Rattle.std.proofs.lemmas.Bool.Decides.{nat_tests}
use Rattle.std.proofs.lemmas.List.{take_all}
use Rattle.board_journal.specs.Openings.{Opening}
use Rattle.run_rules.specs.declared.machine.Machine.{Machine}
use Rattle.run_rules.specs.Cuts.{counts_asked, cut_to, with_cut}
use Rattle.run_rules.specs.Finding.{Fate}
use Rattle.run_rules.specs.Finding.{Fate as fates}
use Rattle.run_rules.specs.Outcomes.{jogged_behind}
use Rattle.run_rules.specs.Reports.{settled_to, fewest, most}
use Rattle.run_rules.specs.Work.{Outcome, Kind}
use Rattle.step_line.specs.Finishing.{ticks_together}
use Rattle.board_journal.specs.Steps.{Journal, outcomes_of, open_of, motion_of}
use Rattle.board_journal.specs.Steps.Step.{began, cut, halted}
use Rattle.board_rules.specs.Parts.{counts_in}
use Rattle.board_rules.specs.Cuts.{part_outcomes, part_given, has_halted, parts_of, counts_of}
use Rattle.board_rules.specs.Turns.{has_jogged, machine_in}
use Rattle.board_rules.specs.Conduct.{Conducted, ticks_given}
use Rattle.board_rules.proofs.Beginning.{fate_now}
use Rattle.board_rules.proofs.Alarms.{unhalted, halted_once}
use Rattle.board_rules.proofs.Counting.{plain_counts, sum_on, front_cut, front_with, front_before, length_cut, length_asked, length_counts, closed_sum, given_sum}
use Rattle.board_rules.proofs.Growing.{LastStays, last_stays, settled_short}
use Rattle.board_rules.proofs.Jogging.{cancel_is_jog}
use Rattle.board_rules.proofs.Numbers.{cut_has_lines}

-- ---- the last line before a cut does not settle

begun_stays : (m : Machine) (kept : List ℕ) (os : List Outcome) (o : Outcome) (was : Bool) → Fate m kept o → jogged_behind o.kind was ≡ true → LastStays (os ++ o ∷ [])
begun_stays m kept os o was (fates.coded kind other) is = absurd (let e = sym (ap (λ (k : Kind). jogged_behind k was) kind) ∙ is in cc)
begun_stays m kept os o was (fates.a_jog kind other dollar still work) is = last_stays os o still
begun_stays m kept os o was (fates.halted kind other still work) is = last_stays os o still
begun_stays m kept os o was (fates.neither kind still none) is = last_stays os o still

stays_is : (first : Opening) (h : Journal) → Conducted first h → has_jogged h ≡ true → LastStays (outcomes_of h)
stays_is first [] c is = absurd cc
stays_is first (began o ∷ h) c is = begun_stays (machine_in (motion_of first h)) (open_of h) (outcomes_of h) o (has_jogged h) (fate_now first h o c.0) is
stays_is first (_ ∷ h) c is = stays_is first h c.1 is

-- ---- fronts of two lists behind one another

front_on : (n : ℕ) (xs ys : List ℕ) → take n (xs ++ ys) ≡ take n xs ++ take (n - length xs) ys
front_on n [] ys = ap (λ (m : ℕ). take m ys) (minus_none n) ∙ ap (λ (xs : List ℕ). xs ++ take (n - 0) ys) (sym (take_all n [] (omega arith)))
  where
    minus_none : (n : ℕ) → n ≡ n - 0
    minus_none n = omega arith
front_on zero (x ∷ xs) ys = ap (λ (m : ℕ). take m ys) (none_left (length (x ∷ xs)))
  where
    none_left : (n : ℕ) → 0 ≡ 0 - n
    none_left n = omega arith
front_on (suc n) (x ∷ xs) ys = ap (λ (zs : List ℕ). x ∷ zs) (front_on n xs ys) ∙ ap (λ (m : ℕ). x ∷ take n xs ++ take m ys) (let e : n - length xs ≡ suc n - length (x ∷ xs) = omega arith in e)

pub front_sum : (n : ℕ) (xs ys : List ℕ) → sum (take n (xs ++ ys)) ≡ sum (take n xs) + sum (take (n - length xs) ys)
front_sum n xs ys = ap sum (front_on n xs ys) ∙ sum_on (take n xs) (take (n - length xs) ys)

-- ---- what counts behind a cut

-- the counts of closed parts, and of one that is cut where so many ticks of it were given
abbrev cut_counts : List ℕ → ℕ → List ℕ → List ℕ
cut_counts xs m ns = xs ++ with_cut (cut_to m ns)

fewer : (s m : ℕ) (xs ns : List ℕ) → s < length xs + length ns → 0 < length ns → sum (take s (cut_counts xs m ns)) ≤ sum (take s (xs ++ ns))
fewer s m xs ns short some =
    let j = s - length xs in
    let a = front_sum s xs (with_cut (cut_to m ns)) in
    let b = front_sum s xs ns in
    let less : j < length (cut_to m ns) = (let e = length_cut m ns in omega (arith, e, short, some)) in
    let d = front_before j (cut_to m ns) less in
    let e = front_cut j m ns in
    omega (arith, a, b, d, e)

-- the cut itself is one more
with_more : (i : ℕ) (xs ns : List ℕ) → sum (take i (xs ++ ns)) ≤ sum (take i (xs ++ with_cut ns))
with_more i xs ns =
    let a = front_sum i xs ns in
    let b = front_sum i xs (with_cut ns) in
    let d = front_with (i - length xs) ns in
    omega (arith, a, b, d)

-- what was given of a part counts, up to any line that asks for so much
no_less : (i m n : ℕ) (xs ns : List ℕ) (t : Bool) → nat_le (length xs) i ≡ t → n ≤ sum xs + m → n ≤ sum (take i (xs ++ ns)) → n ≤ sum (take i (xs ++ cut_to m ns))
no_less i m n xs ns true t given asked =
    let j = i - length xs in
    let a = front_sum i xs (cut_to m ns) in
    let b = front_sum i xs ns in
    let e = front_cut j m ns in
    let reached : length xs ≤ i = grind (arith, nat_tests) in
    let all : sum (take i xs) ≡ sum xs = ap sum (take_all i xs reached) in
    omega (arith, a, b, e, all, given, asked)
no_less i m n xs ns false t given asked =
    let j = i - length xs in
    let a = front_sum i xs (cut_to m ns) in
    let b = front_sum i xs ns in
    let short : i < length xs = grind (arith, nat_tests) in
    let none : j ≡ 0 = omega (arith, short) in
    let nothing : sum (take j ns) ≡ 0 = ap (λ (q : ℕ). sum (take q ns)) none in
    omega (arith, a, b, nothing, asked)

behind_cut : (first : Opening) (h : Journal) (k : ℕ) → has_halted h ≡ false → counts_of first (cut k ∷ h) ≡ cut_counts (counts_in (parts_of first h)) (ticks_together (part_given h)) (counts_asked (part_outcomes h))
behind_cut first h k none = plain_counts first (cut k ∷ h) none ∙ append-nil (cut_counts (counts_in (parts_of first h)) (ticks_together (part_given h)) (counts_asked (part_outcomes h)))

-- up to a line that settles no more counts than before
pub low_behind : (first : Opening) (h : Journal) (k : ℕ) → Conducted first (cut k ∷ h) → (n : ℕ) → fewest n (outcomes_of h) (counts_of first (cut k ∷ h)) ≤ fewest n (outcomes_of h) (counts_of first h)
low_behind first h k c n =
    let s = settled_to (take n (outcomes_of h)) in
    let A = counts_in (parts_of first h) in
    let B = counts_asked (part_outcomes h) in
    let none = unhalted first h c.1 c.0.calm in
    let plain = ap (λ (ns : List ℕ). length ns) (plain_counts first h none) in
    let short = settled_short (outcomes_of h) (stays_is first h c.1 (cancel_is_jog first h c.1 c.0.cancelled)) n in
    let long = length_counts first h c.1 in
    let split = length-append A B in
    let some : 0 < length B = (let e = length_asked (part_outcomes h) in let f = cut_has_lines first h k c in omega (arith, e, f)) in
    let less = fewer s (ticks_together (part_given h)) A B (omega (arith, short, long, split, plain)) some in
    let was : sum (take s (counts_of first h)) ≡ sum (take s (A ++ B)) = ap (λ (ns : List ℕ). sum (take s ns)) (plain_counts first h none) in
    let now : sum (take s (counts_of first (cut k ∷ h))) ≡ sum (take s (cut_counts A (ticks_together (part_given h)) B)) = ap (λ (ns : List ℕ). sum (take s ns)) (behind_cut first h k none) in
    omega (arith, less, was, now)

-- up to any line no less counts than what was given
pub high_behind : (first : Opening) (h : Journal) (k : ℕ) → Conducted first (cut k ∷ h) → (i n : ℕ) → n ≤ ticks_given h → n ≤ most i (counts_of first h) → n ≤ most i (counts_of first (cut k ∷ h))
high_behind first h k c i n given asked =
    let A = counts_in (parts_of first h) in
    let B = counts_asked (part_outcomes h) in
    let m = ticks_together (part_given h) in
    let all : ticks_given h ≡ sum A + m = (let e = closed_sum first h c.1 in let f = given_sum first h c.1 in omega (arith, e, f)) in
    let none = unhalted first h c.1 c.0.calm in
    let was : most i (counts_of first h) ≡ most i (A ++ B) = ap (most i) (plain_counts first h none) in
    let now : most i (counts_of first (cut k ∷ h)) ≡ most i (cut_counts A m B) = ap (most i) (behind_cut first h k none) in
    let some = no_less (i + 1) m n A B (nat_le (length A) (i + 1)) refl (omega (arith, all, given)) (omega (arith, asked, was)) in
    let more = with_more (i + 1) A (cut_to m B) in
    omega (arith, some, more, now)

-- ---- behind a halt

pub halt_low : (first : Opening) (h : Journal) → Conducted first (halted ∷ h) → (n : ℕ) → fewest n (outcomes_of h) (counts_of first (halted ∷ h)) ≤ fewest n (outcomes_of h) (counts_of first h)
halt_low first h c n =
    let s = settled_to (take n (outcomes_of h)) in
    let A = counts_in (parts_of first h) in
    let B = counts_asked (part_outcomes h) in
    let m = ticks_together (part_given h) in
    let was : sum (take s (counts_of first h)) ≡ sum (take s (A ++ B)) = ap (λ (ns : List ℕ). sum (take s ns)) (plain_counts first h (halted_once first h c)) in
    let a = front_sum s A B in
    let b = front_sum s A (cut_to m B) in
    let d = front_cut (s - length A) m B in
    omega (arith, was, a, b, d)

pub halt_high : (first : Opening) (h : Journal) → Conducted first (halted ∷ h) → (i n : ℕ) → n ≤ ticks_given h → n ≤ most i (counts_of first h) → n ≤ most i (counts_of first (halted ∷ h))
halt_high first h c i n given asked =
    let A = counts_in (parts_of first h) in
    let B = counts_asked (part_outcomes h) in
    let m = ticks_together (part_given h) in
    let all : ticks_given h ≡ sum A + m = (let e = closed_sum first h c.1 in let f = given_sum first h c.1 in omega (arith, e, f)) in
    let was : most i (counts_of first h) ≡ most i (A ++ B) = ap (most i) (plain_counts first h (halted_once first h c)) in
    no_less (i + 1) m n A B (nat_le (length A) (i + 1)) refl (omega (arith, all, given)) (omega (arith, asked, was))
