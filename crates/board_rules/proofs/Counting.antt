-- How many ticks count of the lines that were begun: those that were given, that are left in the plan, and that are left to ask.
use Rattle.std.proofs.Common.{◌≡◌, ℕ, zero, suc, ◌+◌, ◌-◌, ◌≤◌, ◌<◌, min, Bool, true, false, cond, List, [], ◌∷◌, ◌++◌, length, take, sym, refl, ap, ◌∙◌, arith, append_assoc, append-nil, length-append}
use Rattle.std.specs.List.{AllByRecursion, flat_map, sum}
use Rattle.std.proofs.lemmas.List.{length-map, map-append}
use Rattle.std.proofs.lemmas.List.Sums.{sum_by-append, sum_by-cons}
use Rattle.board_journal.specs.Openings.{Opening}
use Rattle.run_rules.specs.Cuts.{ticks_asked_for, counts_asked, cut_to, with_cut}
use Rattle.run_rules.specs.Work.{Outcome, asks}
use Rattle.run_rules.specs.Told.{asked_in}
use Rattle.plan_rules.specs.Plans.{Planned}
use Rattle.line_geom.specs.declared.Block.{Block}
use Rattle.planner_runs.specs.declared.Action.{Action}
use Rattle.planner_runs.specs.Runs.{ticks_left, ticks_left_in}
use Rattle.step_line.specs.Asking.{Asked, ticks_of_all}
use Rattle.step_line.specs.Finishing.{ticks_together}
use Rattle.step_line.specs.Pieces.{ticks_of}
use Rattle.step_line.specs.declared.Mark.TheVariants as marks
use Rattle.step_line.specs.declared.Piece.{Piece}
use Rattle.step_line.specs.declared.Piece.TheVariants as pieces
use Rattle.step_line.specs.declared.Record.{Record}
use Rattle.step_line.proofs.Finished.{together_both}
use Rattle.board_journal.specs.Steps.{Journal, has_limited, outcomes_of, plan_of, left_of}
use Rattle.board_journal.specs.Steps.Step.{began, did}
use Rattle.board_rules.specs.Parts.{Part, IsCutPart, lines_in, pieces_in, counts_in, AreNumbered}
use Rattle.board_rules.specs.Cuts.{part_outcomes, part_given, part_plan, part_counts, has_halted, parts_of, counts_of}
use Rattle.board_rules.specs.Conduct.{Conducted, ticks_given}
use Rattle.board_rules.proofs.Alarms.{stage_is, only_override, unhalted, halted_alarmed, halted_stands, none_asked, part_plan_is}
use Rattle.board_rules.proofs.Closing.{phase_is, same_ticks}
use Rattle.board_rules.proofs.Losing.{one_and_more}
use Rattle.board_rules.proofs.Numbers.{lines_are, pieces_are, numbers_are, parts_are}
use Rattle.board_rules.proofs.Parting.{part_ticks}

-- ---- sums

pub sum_on : (ms ns : List ℕ) → sum (ms ++ ns) ≡ sum ms + sum ns
sum_on ms ns = sum_by-append (λ n. n) ms ns

pub sum_first : (n : ℕ) (ns : List ℕ) → sum (n ∷ ns) ≡ n + sum ns
sum_first n ns = sum_by-cons (λ n. n) n ns

pub sum_cut : (m : ℕ) (ns : List ℕ) → sum (cut_to m ns) ≡ min (sum ns) m
sum_cut m [] = omega arith
sum_cut m (n ∷ ns) =
    let e = sum_cut (m - n) ns in
    let a = sum_first (min n m) (cut_to (m - n) ns) in
    let b = sum_first n ns in
    omega (arith, e, a, b)

sum_with : (ns : List ℕ) → 0 < length ns → sum (with_cut ns) ≡ sum ns + 1
sum_with [] some = absurd (omega (arith, some))
sum_with (n ∷ []) some = let a = sum_first (n + 1) [] in let b = sum_first n [] in omega (arith, a, b)
sum_with (n ∷ m ∷ ns) some =
    let e = sum_with (m ∷ ns) (omega arith) in
    let a = sum_first n (with_cut (m ∷ ns)) in
    let b = sum_first n (m ∷ ns) in
    omega (arith, e, a, b)

-- ---- the first of them

pub front_cut : (j m : ℕ) (ns : List ℕ) → sum (take j (cut_to m ns)) ≡ min (sum (take j ns)) m
front_cut zero m ns = omega arith
front_cut (suc j) m [] = omega arith
front_cut (suc j) m (n ∷ ns) =
    let e = front_cut j (m - n) ns in
    let a = sum_first (min n m) (take j (cut_to (m - n) ns)) in
    let b = sum_first n (take j ns) in
    omega (arith, e, a, b)

-- the cut counts with the last
pub front_with : (j : ℕ) (ns : List ℕ) → sum (take j ns) ≤ sum (take j (with_cut ns))
front_with zero ns = omega arith
front_with (suc j) [] = omega arith
front_with (suc j) (n ∷ []) =
    let a = sum_first n (take j []) in let b = sum_first (n + 1) (take j []) in omega (arith, a, b)
front_with (suc j) (n ∷ m ∷ ns) =
    let e = front_with j (m ∷ ns) in
    let a = sum_first n (take j (m ∷ ns)) in
    let b = sum_first n (take j (with_cut (m ∷ ns))) in
    omega (arith, e, a, b)

pub front_before : (j : ℕ) (ns : List ℕ) → j < length ns → sum (take j (with_cut ns)) ≡ sum (take j ns)
front_before zero ns few = refl
front_before (suc j) [] few = absurd (omega (arith, few))
front_before (suc j) (n ∷ []) few = absurd (omega (arith, few))
front_before (suc j) (n ∷ m ∷ ns) few =
    let e = front_before j (m ∷ ns) (omega (arith, few)) in
    let a = sum_first n (take j (m ∷ ns)) in
    let b = sum_first n (take j (with_cut (m ∷ ns))) in
    omega (arith, e, a, b)

-- ---- how many there are

pub length_cut : (m : ℕ) (ns : List ℕ) → length (cut_to m ns) ≡ length ns
length_cut m [] = refl
length_cut m (n ∷ ns) = ap suc (length_cut (m - n) ns)

length_with : (ns : List ℕ) → length (with_cut ns) ≡ length ns
length_with [] = refl
length_with (n ∷ []) = refl
length_with (n ∷ m ∷ ns) = ap suc (length_with (m ∷ ns))

pub length_asked : (os : List Outcome) → length (counts_asked os) ≡ length os
length_asked os = length-map os ticks_asked_for

pub length_in : (ps : List Part) → length (counts_in ps) ≡ length (lines_in ps)
length_in [] = refl
length_in (p ∷ ps) =
    let e = length_in ps in
    let m = ticks_together p.given in
    let a = length-append (counts_in ps) (with_cut (cut_to m (counts_asked p.outcomes))) in
    let b = length-append (lines_in ps) p.outcomes in
    let d = length_with (cut_to m (counts_asked p.outcomes)) in
    let f = length_cut m (counts_asked p.outcomes) in
    let g = length_asked p.outcomes in
    omega (arith, e, a, b, d, f, g)

-- of the open part those ticks count that were given, the first ones
abbrev given_counts : Journal → List ℕ
given_counts h = cut_to (ticks_together (part_given h)) (counts_asked (part_outcomes h))

length_open : (h : Journal) (was : Bool) → length (cond was (given_counts h) (counts_asked (part_outcomes h))) ≡ length (part_outcomes h)
length_open h true = length_cut (ticks_together (part_given h)) (counts_asked (part_outcomes h)) ∙ length_asked (part_outcomes h)
length_open h false = length_asked (part_outcomes h)

-- each line that was begun has its count
pub length_counts : (first : Opening) (h : Journal) → Conducted first h → length (counts_of first h) ≡ length (outcomes_of h)
length_counts first h c =
    let a = length-append (counts_in (parts_of first h)) (part_counts h) in
    let b = length_in (parts_of first h) in
    let d = length_open h (has_halted h) in
    let e = ap (λ (os : List Outcome). length os) (lines_are first h c) ∙ length-append (lines_in (parts_of first h)) (part_outcomes h) in
    omega (arith, a, b, d, e)

-- where the machine was not halted, all ticks count of the lines of the open part
pub plain_counts : (first : Opening) (h : Journal) → has_halted h ≡ false → counts_of first h ≡ counts_in (parts_of first h) ++ counts_asked (part_outcomes h)
plain_counts first h none = ap (λ (b : Bool). counts_in (parts_of first h) ++ cond b (given_counts h) (counts_asked (part_outcomes h))) none

halted_counts : (first : Opening) (h : Journal) → has_halted h ≡ true → counts_of first h ≡ counts_in (parts_of first h) ++ given_counts h
halted_counts first h was = ap (λ (b : Bool). counts_in (parts_of first h) ++ cond b (given_counts h) (counts_asked (part_outcomes h))) was

pub counts_begun : (first : Opening) (h : Journal) (o : Outcome) → Conducted first h → has_limited h ≡ false → counts_of first (began o ∷ h) ≡ counts_of first h ++ ticks_asked_for o ∷ []
counts_begun first h o c none =
    let plain = unhalted first h c none in
    let ps = counts_in (parts_of first h) in
    let ns = counts_asked (part_outcomes h) in
    plain_counts first (began o ∷ h) plain
    ∙ ap (λ (more : List ℕ). ps ++ more) (map-append ticks_asked_for (part_outcomes h) (o ∷ []))
    ∙ sym (append_assoc ps ns (ticks_asked_for o ∷ []))
    ∙ ap (λ (all : List ℕ). all ++ ticks_asked_for o ∷ []) (sym (plain_counts first h plain))

and_none : (qs ps : List Piece) → ps ≡ [] → qs ++ ps ≡ qs
and_none qs ps none = ap (λ (rs : List Piece). qs ++ rs) none ∙ append-nil qs

-- what is done to the plan changes no count
pub counts_did : (first : Opening) (h : Journal) (a : Action) (ps : List Piece) → Conducted first (did a ps ∷ h) → counts_of first (did a ps ∷ h) ≡ counts_of first h
counts_did first h a ps c = by_halt (has_halted h) refl
  where
    by_halt : (b : Bool) → has_halted h ≡ b → counts_of first (did a ps ∷ h) ≡ counts_of first h
    by_halt true was =
        halted_counts first (did a ps ∷ h) was
        ∙ ap (λ (qs : List Piece). counts_in (parts_of first h) ++ cut_to (ticks_together qs) (counts_asked (part_outcomes h)))
        (and_none (part_given h) ps (only_override first h a ps c.0.0 c.0.1 (stage_is first h c.1) was).2)
        ∙ sym (halted_counts first h was)
    by_halt false none = plain_counts first (did a ps ∷ h) none ∙ sym (plain_counts first h none)

-- ---- the ticks of parts

pub asked_sum : (os : List Outcome) → sum (counts_asked os) ≡ length (ticks_of_all (asked_in os))
asked_sum [] = refl
asked_sum (o ∷ os) =
    let e = asked_sum os in
    let a = sum_first (ticks_asked_for o) (counts_asked os) in
    let b = one_and_more o os in
    omega (arith, e, a, b)

length_of_lines : (before : ℕ) (p : Part) (ps : List Part) → AreNumbered before (p ∷ ps) → 0 < length p.outcomes
length_of_lines before p [] n =
    let e = n.0 in let f = n.1 in omega (arith, e, f)
length_of_lines before p (q ∷ ps) n =
    let e = n.0 in let f = n.1 in let g = n.2.0 in
    let a = length-append (lines_in (q ∷ ps)) p.outcomes in
    omega (arith, e, f, g, a)

-- the ticks that count of a part's lines are those that were given, and the cut
part_sum : (most : ℕ) (p : Part) → IsCutPart most p → 0 < length p.outcomes → sum (with_cut (cut_to (ticks_together p.given) (counts_asked p.outcomes))) ≡ ticks_together p.given + 1
part_sum most p is some =
    let m = ticks_together p.given in
    let ns = counts_asked p.outcomes in
    let long : 0 < length (cut_to m ns) = (let e = length_cut m ns in let f = length_asked p.outcomes in omega (arith, e, f, some)) in
    let a = sum_with (cut_to m ns) long in
    let b = sum_cut m ns in
    let d = asked_sum p.outcomes in
    let e = ap (λ (rs : List Record). length rs) is.ticks ∙ length-append (flat_map ticks_of p.given) _ in
    omega (arith, a, b, d, e)

pieces_sum : (p : Part) (ps : List Part) → ticks_together (pieces_in (p ∷ ps)) ≡ ticks_together (pieces_in ps) + (ticks_together p.given + 1)
pieces_sum p ps =
    let a = together_both (pieces_in ps) (p.given ++ pieces.Mark (marks.Cut p.number) ∷ []) in
    let b = together_both p.given (pieces.Mark (marks.Cut p.number) ∷ []) in
    omega (arith, a, b)

pub parts_sum : (most before : ℕ) (ps : List Part) → AllByRecursion (λ p. IsCutPart most p) ps → AreNumbered before ps → sum (counts_in ps) ≡ ticks_together (pieces_in ps)
parts_sum most before [] all n = refl
parts_sum most before (p ∷ ps) all n =
    let e = parts_sum most before ps all.1 n.2 in
    let a = sum_on (counts_in ps) (with_cut (cut_to (ticks_together p.given) (counts_asked p.outcomes))) in
    let b = part_sum most p all.0 (length_of_lines before p ps n) in
    let d = pieces_sum p ps in
    omega (arith, e, a, b, d)

pub closed_sum : (first : Opening) (h : Journal) → Conducted first h → sum (counts_in (parts_of first h)) ≡ ticks_together (pieces_in (parts_of first h))
closed_sum first h c = parts_sum first.blocks first.lines (parts_of first h) (parts_are first h c) (numbers_are first h c)

-- what was given in the closed parts, and since
pub given_sum : (first : Opening) (h : Journal) → Conducted first h → ticks_given h ≡ ticks_together (pieces_in (parts_of first h)) + ticks_together (part_given h)
given_sum first h c = same_ticks first h (phase_is first h c) ∙ ap ticks_together (pieces_are first h c) ∙ together_both (pieces_in (parts_of first h)) (part_given h)

abbrev pub left_to_ask : Opening → Journal → ℕ
left_to_ask first h = length (ticks_of_all (asks (left_of first h)))

-- what the lines of the open part ask for
open_sum : (first : Opening) (h : Journal) → Conducted first h
    → sum (counts_asked (part_outcomes h)) ≡ ticks_together (part_given h) + length (ticks_left (part_plan h)) + left_to_ask first h
open_sum first h c =
    let d = asked_sum (part_outcomes h) in
    let e = ap (λ (rs : List Record). length rs) (part_ticks first h c)
    ∙ length-append (flat_map ticks_of (part_given h)) (ticks_left (part_plan h) ++ ticks_of_all (asks (left_of first h))) in
    let f = length-append (ticks_left (part_plan h)) (ticks_of_all (asks (left_of first h))) in
    omega (arith, d, e, f)

-- where the machine was not halted
plain_sum : (first : Opening) (h : Journal) → Conducted first h → has_halted h ≡ false → sum (counts_of first h) ≡ ticks_given h + length (ticks_left (plan_of h)) + left_to_ask first h
plain_sum first h c none =
    let same : sum (counts_of first h) ≡ sum (counts_in (parts_of first h) ++ counts_asked (part_outcomes h)) = ap (λ (ns : List ℕ). sum ns) (plain_counts first h none) in
    let a = sum_on (counts_in (parts_of first h)) (counts_asked (part_outcomes h)) in
    let b = closed_sum first h c in
    let d = open_sum first h c in
    let e : length (ticks_left (part_plan h)) ≡ length (ticks_left (plan_of h)) = ap (λ (p : Planned). length (ticks_left p)) (part_plan_is h none) in
    let g = given_sum first h c in
    omega (arith, same, a, b, d, e, g)

-- and where it was, so that nothing is left
halted_sum : (first : Opening) (h : Journal) → Conducted first h → has_halted h ≡ true → sum (counts_of first h) ≡ ticks_given h + length (ticks_left (plan_of h)) + left_to_ask first h
halted_sum first h c was =
    let same : sum (counts_of first h) ≡ sum (counts_in (parts_of first h) ++ given_counts h) = ap (λ (ns : List ℕ). sum ns) (halted_counts first h was) in
    let a = sum_on (counts_in (parts_of first h)) (given_counts h) in
    let b = closed_sum first h c in
    let d = open_sum first h c in
    let e = sum_cut (ticks_together (part_given h)) (counts_asked (part_outcomes h)) in
    let f : length (ticks_left (plan_of h)) ≡ 0 = ap (λ (bs : List Block). length (flat_map ticks_left_in bs)) (halted_stands first h c was).0.blocks in
    let k : left_to_ask first h ≡ 0 = ap (λ (asked : List Asked). length (ticks_of_all asked)) (none_asked first h c (halted_alarmed first h c was)) in
    let g = given_sum first h c in
    omega (arith, same, a, b, d, e, f, k, g)

-- what counts of the lines is given, or left in the plan, or to be asked
pub counts_are : (first : Opening) (h : Journal) → Conducted first h → sum (counts_of first h) ≡ ticks_given h + length (ticks_left (plan_of h)) + left_to_ask first h
counts_are first h c = by_halt (has_halted h) refl
  where
    by_halt : (b : Bool) → has_halted h ≡ b → sum (counts_of first h) ≡ ticks_given h + length (ticks_left (plan_of h)) + left_to_ask first h
    by_halt true was = halted_sum first h c was
    by_halt false none = plain_sum first h c none
