-- How many ticks count of each line of an epoch, and how many were given.
use Rattle.std.proofs.Common.{◌≡◌, ℕ, ◌+◌, ◌≤◌, Bool, true, false, cond, List, [], ◌∷◌, ◌++◌, map, reverse, length, refl, sym, ap, ◌∙◌, append_assoc, append-nil, arith}
use Rattle.std.proofs.lemmas.List.{map-append}
use Rattle.std.specs.List.{flat_map, sum}
use Rattle.flight.specs.Places.{end_from}
use Rattle.run_rules.specs.Cuts.{counts_asked, cut_to}
use Rattle.run_rules.specs.Work.{Outcome}
use Rattle.run_texts.specs.Courses.{Passed, cuts_in}
use Rattle.run_texts.specs.Courses.Passed.{a_line, a_broken, a_cut, a_reset}
use Rattle.run_texts.specs.Parts.{Part, parts_of, onto_first}
use Rattle.run_texts.specs.Parts.Ending.{by_cut}
use Rattle.step_line.specs.Finishing.{ticks_together}
use Rattle.step_line.specs.declared.Mark.TheVariants as marks
use Rattle.step_line.specs.declared.Piece.{Piece}
use Rattle.step_line.specs.declared.Piece.TheVariants as pieces
use Rattle.step_line.proofs.Finished.{together_both}
use Rattle.units.specs.declared.Steps3.{Steps3}
use Rattle.board_rules.specs.Conduct.{Conducted, ticks_given}
use Rattle.board_rules.specs.Cuts.{part_outcomes, part_given, part_counts, part_of, counts_of, has_halted}
use Rattle.board_rules.specs.Cuts.{parts_of as board_parts}
use Rattle.board_journal.specs.Openings.{Opening}
use Rattle.board_rules.specs.Parts.{Part as CutPart, pieces_in}
use Rattle.board_rules.specs.Parts.{counts_in as cut_counts}
use Rattle.board_journal.specs.Steps.{Journal, given_of, known_of, outcomes_of}
use Rattle.board_journal.specs.Steps.Step.{began, cut}
use Rattle.board_rules.proofs.Counting.{closed_sum, given_sum, counts_are}
use Rattle.epoch_courses.specs.Course.{is_made, passed_by}
use Rattle.epoch_courses.specs.Drives.{Driven, is_pending, driven_by_cut, driven_since, drives_in}
use Rattle.epoch_courses.proofs.Broken.{IsUncut}
use Rattle.epoch_courses.proofs.Drives.{part, parts_end, parts_broken_end, uncut_made, others_made, pends_there}
use Rattle.epoch_courses.proofs.Made.{AllMade}
use Rattle.epoch_effects.specs.Effects.{Stop}
use Rattle.epoch_effects.specs.Effects.Stop.{runs_on, is_halted, is_cut}
use Rattle.epoch_effects.specs.Over.{stop_at}
use Rattle.epoch_effects.specs.Reports.{begun_in, counts_by, counts_over, mark_given}
use Rattle.epoch_effects.proofs.Changes.{with_one_cut, all_drives}
use Rattle.epoch_effects.proofs.Parts.{all_made, unmade_drives}
use Rattle.epoch_effects.proofs.Passed.{cuts_both, begun_uncut}

-- ---- the lines

begun_both : (ps qs : List Passed) → begun_in (ps ++ qs) ≡ begun_in ps ++ begun_in qs
begun_both [] qs = refl
begun_both (a_line o ∷ ps) qs = ap (λ (os : List Outcome). o ∷ os) (begun_both ps qs)
begun_both (a_broken o ∷ ps) qs = ap (λ (os : List Outcome). o ∷ os) (begun_both ps qs)
begun_both (a_cut k at ∷ ps) qs = begun_both ps qs
begun_both (a_reset r ∷ ps) qs = begun_both ps qs

one_begun : (broken : Bool) (o : Outcome) → begun_in (cond broken (a_broken o) (a_line o) ∷ []) ≡ o ∷ []
one_begun true o = refl
one_begun false o = refl

none_begun : (t : Bool) (k : ℕ) (at : Steps3) → begun_in (cond t (a_cut k at ∷ []) []) ≡ []
none_begun true k at = refl
none_begun false k at = refl

pub lines_begun : (broken : Bool) (made : ℕ) (first : Opening) (h : Journal) → begun_in (passed_by broken made first h) ≡ outcomes_of h
lines_begun broken made first [] = refl
lines_begun broken made first (began o ∷ h) =
    begun_both (passed_by false made first h) (cond broken (a_broken o) (a_line o) ∷ []) ∙ ap (λ (os : List Outcome). begun_in (passed_by false made first h) ++ os) (one_begun broken o)
    ∙ ap (λ (os : List Outcome). os ++ o ∷ []) (lines_begun false made first h)
lines_begun broken made first (cut k ∷ h) =
    begun_both (passed_by broken made first h) (cond (is_made made h) (a_cut k (end_from first.place (given_of h)) ∷ []) [])
    ∙ ap (λ (os : List Outcome). begun_in (passed_by broken made first h) ++ os) (none_begun (is_made made h) k (end_from first.place (given_of h)))
    ∙ append-nil (begun_in (passed_by broken made first h)) ∙ lines_begun broken made first h
lines_begun broken made first (_ ∷ h) = lines_begun broken made first h

-- ---- their ticks, part by part

pub parts_cut : (os : List Outcome) (k : ℕ) (at : Steps3) (rest : List Passed) → parts_of (map a_line os ++ a_cut k at ∷ rest) ≡ part os [] (by_cut k at) ∷ parts_of rest
parts_cut [] k at rest = refl
parts_cut (o ∷ os) k at rest = ap (onto_first o) (parts_cut os k at rest)

abbrev all_cut : Opening → Journal → List Driven → List Driven
all_cut first h ds = map driven_by_cut (reverse (board_parts first h)) ++ ds

counts_there : (stop : Stop) (made : ℕ) (first : Opening) (h : Journal) (rest : List Passed) (ds : List Driven) → AllMade made h
    → counts_over stop (parts_of (passed_by false made first h ++ rest)) (all_cut first h ds) ≡ cut_counts (board_parts first h) ++ counts_over stop (parts_of (map a_line (part_outcomes h) ++ rest)) ds
counts_there stop made first [] rest ds all = refl
counts_there stop made first (began o ∷ h) rest ds all =
    ap (λ (ps : List Passed). counts_over stop (parts_of ps) (all_cut first h ds)) (append_assoc (passed_by false made first h) (a_line o ∷ []) rest)
    ∙ counts_there stop made first h (a_line o ∷ rest) ds all
    ∙ ap (λ (ps : List Passed). cut_counts (board_parts first h) ++ counts_over stop (parts_of ps) ds)
    (sym (ap (λ (ps : List Passed). ps ++ rest) (map-append a_line (part_outcomes h) (o ∷ [])) ∙ append_assoc (map a_line (part_outcomes h)) (a_line o ∷ []) rest))
counts_there stop made first (cut k ∷ h) rest ds all =
    let at = end_from first.place (given_of h) in
    let q = part_of first k h in
    let last = counts_by is_cut (ticks_together q.given) (part_outcomes h) in
    let same : (passed_by false made first h ++ cond (is_made made h) (a_cut k at ∷ []) []) ++ rest ≡ passed_by false made first h ++ a_cut k at ∷ rest =
    ap (λ (t : Bool). (passed_by false made first h ++ cond t (a_cut k at ∷ []) []) ++ rest) all.0 ∙ append_assoc (passed_by false made first h) (a_cut k at ∷ []) rest in
    ap (λ (ps : List Passed). counts_over stop (parts_of ps) (all_cut first (cut k ∷ h) ds)) same
    ∙ ap (λ (xs : List Driven). counts_over stop (parts_of (passed_by false made first h ++ a_cut k at ∷ rest)) xs) (with_one_cut q (board_parts first h) ds)
    ∙ counts_there stop made first h (a_cut k at ∷ rest) (driven_by_cut q ∷ ds) all.1
    ∙ ap (λ (ns : List ℕ). cut_counts (board_parts first h) ++ ns)
    (ap (λ (ps : List Part). counts_over stop ps (driven_by_cut q ∷ ds)) (parts_cut (part_outcomes h) k at rest)
    ∙ ap (λ (os : List Outcome). counts_by is_cut (ticks_together q.given) os ++ counts_over stop (parts_of rest) ds) (append-nil (part_outcomes h)))
    ∙ sym (append_assoc (cut_counts (board_parts first h)) last (counts_over stop (parts_of rest) ds))
counts_there stop made first (_ ∷ h) rest ds all = counts_there stop made first h rest ds all

-- up to the end of the epoch
counts_to_end : (stop : Stop) (made : ℕ) (first : Opening) (h : Journal) (d : Driven) → AllMade made h
    → counts_over stop (parts_of (passed_by false made first h)) (all_cut first h (d ∷ [])) ≡ cut_counts (board_parts first h) ++ counts_by stop (ticks_together d.given) (part_outcomes h)
counts_to_end stop made first h d all =
    ap (λ (ps : List Passed). counts_over stop (parts_of ps) (all_cut first h (d ∷ []))) (sym (append-nil (passed_by false made first h)))
    ∙ counts_there stop made first h [] (d ∷ []) all
    ∙ ap (λ (ns : List ℕ). cut_counts (board_parts first h) ++ ns)
    (ap (λ (ps : List Part). counts_over stop ps (d ∷ [])) (parts_end (part_outcomes h))
    ∙ append-nil (counts_by stop (ticks_together d.given) (part_outcomes h ++ []))
    ∙ ap (counts_by stop (ticks_together d.given)) (append-nil (part_outcomes h)))

counts_broken : (stop : Stop) (made : ℕ) (first : Opening) (h : Journal) (d : Driven) → IsUncut h → AllMade made h
    → counts_over stop (parts_of (passed_by true made first h)) (all_cut first h (d ∷ [])) ≡ cut_counts (board_parts first h) ++ counts_by stop (ticks_together d.given) (part_outcomes h)
counts_broken stop made first [] d uncut all = absurd uncut
counts_broken stop made first (began o ∷ h) d uncut all =
    counts_there stop made first h (a_broken o ∷ []) (d ∷ []) all
    ∙ ap (λ (ns : List ℕ). cut_counts (board_parts first h) ++ ns)
    (ap (λ (ps : List Part). counts_over stop ps (d ∷ [])) (parts_broken_end (part_outcomes h) o) ∙ append-nil (counts_by stop (ticks_together d.given) (part_outcomes h ++ o ∷ [])))
counts_broken stop made first (cut k ∷ h) d uncut all = absurd uncut
counts_broken stop made first (_ ∷ h) d uncut all = counts_broken stop made first h d uncut all

-- ---- of an epoch whose cuts are all made

by_halt : (t : Bool) (given : ℕ) (os : List Outcome) → counts_by (cond t is_halted runs_on) given os ≡ cond t (cut_to given (counts_asked os)) (counts_asked os)
by_halt true given os = refl
by_halt false given os = refl

pub stop_made : (made : ℕ) (h : Journal) → is_pending made h ≡ false → stop_at made h ≡ cond (has_halted h) is_halted runs_on
stop_made made h none = ap (λ (t : Bool). cond t is_cut (cond (has_halted h) is_halted runs_on)) none

-- the same in both ways
abbrev CountsSo : (broken : Bool) → ℕ → Opening → Journal → Type 0
CountsSo broken made first h = counts_over (stop_at made h) (parts_of (passed_by broken made first h)) (drives_in made first h) ≡ counts_of first h

with_made : (broken : Bool) (made : ℕ) (first : Opening) (h : Journal) → is_pending made h ≡ false
    → counts_over (cond (has_halted h) is_halted runs_on) (parts_of (passed_by broken made first h)) (all_drives first h)
    ≡ cut_counts (board_parts first h) ++ counts_by (cond (has_halted h) is_halted runs_on) (ticks_together (part_given h)) (part_outcomes h) → CountsSo broken made first h
with_made broken made first h none is =
    ap (λ (s : Stop). counts_over s (parts_of (passed_by broken made first h)) (drives_in made first h)) (stop_made made h none)
    ∙ ap (λ (ds : List Driven). counts_over (cond (has_halted h) is_halted runs_on) (parts_of (passed_by broken made first h)) ds) (all_made made first h none)
    ∙ is ∙ ap (λ (ns : List ℕ). cut_counts (board_parts first h) ++ ns) (by_halt (has_halted h) (ticks_together (part_given h)) (part_outcomes h))

-- ---- of one whose last cut is not

none_since : (made : ℕ) (h : Journal) → is_pending made h ≡ true → part_outcomes h ≡ []
none_since made [] one = absurd cc
none_since made (began o ∷ h) one = absurd cc
none_since made (cut k ∷ h) one = refl
none_since made (_ ∷ h) one = none_since made h one

no_counts : (h : Journal) → part_outcomes h ≡ [] → part_counts h ≡ []
no_counts h none = by_halted (has_halted h)
  where
    by_halted : (t : Bool) → cond t (cut_to (ticks_together (part_given h)) (counts_asked (part_outcomes h))) (counts_asked (part_outcomes h)) ≡ []
    by_halted true = ap (λ (os : List Outcome). cut_to (ticks_together (part_given h)) (counts_asked os)) none
    by_halted false = ap counts_asked none

counts_since : (made : ℕ) (first : Opening) (h : Journal) → is_pending made h ≡ true → counts_of first h ≡ cut_counts (board_parts first h)
counts_since made first h one = ap (λ (ns : List ℕ). cut_counts (board_parts first h) ++ ns) (no_counts h (none_since made h one)) ∙ append-nil (cut_counts (board_parts first h))

-- the drives of such a one
pub record LastUnmade (made : ℕ) (first : Opening) (h : Journal) : Type 0 where
  pub before : Journal
  pub q : CutPart
  pub all : AllMade made before
  pub lines : q.outcomes ≡ part_outcomes before
  pub passed : passed_by false made first h ≡ passed_by false made first before
  pub parts : board_parts first h ≡ q ∷ board_parts first before
  pub are : drives_in made first h ≡ all_cut first before (driven_by_cut q ∷ [])

pub last_unmade : (made : ℕ) (first : Opening) (h : Journal) → Conducted first h → known_of h ≤ made → is_pending made h ≡ true → LastUnmade made first h
last_unmade made first h c known one =
    let p = pends_there made first h c known one in
    let q = part_of first p.k p.before in
    record {
      before = p.before;
      q = q;
      all = p.all;
      lines = refl;
      passed = p.passed;
      parts = p.parts;
      are = unmade_drives made first h one q (board_parts first p.before) p.parts;
    }

counts_unmade : (made : ℕ) (first : Opening) (h : Journal) → is_pending made h ≡ true → (u : LastUnmade made first h) → CountsSo false made first h
counts_unmade made first h one u =
    ap (λ (s : Bool). counts_over (cond s is_cut (cond (has_halted h) is_halted runs_on)) (parts_of (passed_by false made first h)) (drives_in made first h)) one
    ∙ ap (λ (ds : List Driven). counts_over is_cut (parts_of (passed_by false made first h)) ds) u.are
    ∙ ap (λ (ps : List Passed). counts_over is_cut (parts_of ps) (all_cut first u.before (driven_by_cut u.q ∷ []))) u.passed
    ∙ counts_to_end is_cut made first u.before (driven_by_cut u.q) u.all
    ∙ ap (λ (os : List Outcome). cut_counts (board_parts first u.before) ++ counts_by is_cut (ticks_together u.q.given) os) (sym u.lines)
    ∙ ap cut_counts (sym u.parts) ∙ sym (counts_since made first h one)

-- ---- how many were given

abbrev given_by : List Driven → ℕ
given_by ds = ticks_together (flat_map (λ (d : Driven). d.given) ds)

-- with a mark for each cut
given_cut : (qs : List CutPart) (ds : List Driven) → given_by (map driven_by_cut (reverse qs) ++ ds) + length qs ≡ ticks_together (pieces_in qs) + given_by ds
given_cut [] ds = omega arith
given_cut (q ∷ qs) ds =
    let mark : List Piece = pieces.Mark (marks.Cut q.number) ∷ [] in
    let e = ap given_by (with_one_cut q qs ds) in
    let was = given_cut qs (driven_by_cut q ∷ ds) in
    let here = together_both q.given (flat_map (λ (d : Driven). d.given) ds) in
    let a = together_both (pieces_in qs) (q.given ++ mark) in
    let b = together_both q.given mark in
    let one : ticks_together mark ≡ 1 = refl in
    omega (arith, e, was, here, a, b, one)

pub cuts_all : (broken : Bool) (made : ℕ) (first : Opening) (h : Journal) → AllMade made h → cuts_in (passed_by broken made first h) ≡ length (board_parts first h)
cuts_all broken made first [] all = refl
cuts_all broken made first (began o ∷ h) all =
    let both = cuts_both (passed_by false made first h) (cond broken (a_broken o) (a_line o) ∷ []) in let none = begun_uncut broken o in let was = cuts_all false made first h all in omega (arith, both, none, was)
cuts_all broken made first (cut k ∷ h) all =
    let p = a_cut k (end_from first.place (given_of h)) in
    let both = cuts_both (passed_by broken made first h) (cond (is_made made h) (p ∷ []) []) in
    let one : cuts_in (cond (is_made made h) (p ∷ []) []) ≡ 1 = ap (λ (t : Bool). cuts_in (cond t (p ∷ []) [])) all.0 in
    let was = cuts_all broken made first h all.1 in
    omega (arith, both, one, was)
cuts_all broken made first (_ ∷ h) all = cuts_all broken made first h all

abbrev GivenSo : (broken : Bool) → ℕ → Opening → Journal → Type 0
GivenSo broken made first h = given_by (drives_in made first h) + cuts_in (passed_by broken made first h) + mark_given (stop_at made h) ≡ ticks_given h

no_mark : (t : Bool) → mark_given (cond t is_halted runs_on) ≡ 0
no_mark true = refl
no_mark false = refl

given_made : (broken : Bool) (made : ℕ) (first : Opening) (h : Journal) → Conducted first h → AllMade made h → is_pending made h ≡ false → GivenSo broken made first h
given_made broken made first h c all none =
    let e = ap given_by (all_made made first h none) in
    let cuts = cuts_all broken made first h all in
    let stop = ap mark_given (stop_made made h none) ∙ no_mark (has_halted h) in
    let both = given_cut (board_parts first h) (driven_since first h ∷ []) in
    let last = ap ticks_together (append-nil (part_given h)) in
    let sums = given_sum first h c in
    omega (arith, e, cuts, stop, both, last, sums)

given_unmade : (made : ℕ) (first : Opening) (h : Journal) → Conducted first h → is_pending made h ≡ true → (u : LastUnmade made first h) → GivenSo false made first h
given_unmade made first h c one u =
    let mark : List Piece = pieces.Mark (marks.Cut u.q.number) ∷ [] in
    let e = ap given_by u.are in
    let both = given_cut (board_parts first u.before) (driven_by_cut u.q ∷ []) in
    let last = ap ticks_together (append-nil u.q.given) in
    let cuts = ap cuts_in u.passed ∙ cuts_all false made first u.before u.all in
    let stop : mark_given (stop_at made h) ≡ 1 = ap (λ (t : Bool). mark_given (cond t is_cut (cond (has_halted h) is_halted runs_on))) one in
    let a = ap (λ (ps : List CutPart). ticks_together (pieces_in ps)) u.parts in
    let b = together_both (pieces_in (board_parts first u.before)) (u.q.given ++ mark) in
    let d = together_both u.q.given mark in
    let tick : ticks_together mark ≡ 1 = refl in
    let sums = given_sum first h c in
    let all = counts_are first h c in
    let closed = ap sum (counts_since made first h one) ∙ closed_sum first h c in
    omega (arith, e, both, last, cuts, stop, a, b, d, tick, sums, all, closed)

-- ---- of each epoch

pub record Counted (broken : Bool) (made : ℕ) (first : Opening) (h : Journal) : Type 0 where
  pub counts : CountsSo broken made first h
  pub given : GivenSo broken made first h

pub counted_so_far : (made : ℕ) (first : Opening) (h : Journal) → Conducted first h → known_of h ≤ made → Counted false made first h
counted_so_far made first h c known = by_pending (is_pending made h) refl
  where
    by_pending : (t : Bool) → is_pending made h ≡ t → Counted false made first h
    by_pending true one = let u = last_unmade made first h c known one in record { counts = counts_unmade made first h one u; given = given_unmade made first h c one u }
    by_pending false none =
        let all = others_made made first h c known none in
        record {
          counts = with_made false made first h none (counts_to_end (cond (has_halted h) is_halted runs_on) made first h (driven_since first h) all);
          given = given_made false made first h c all none;
        }

pub counted_broken : (made : ℕ) (first : Opening) (h : Journal) → Conducted first h → known_of h ≤ made → IsUncut h → Counted true made first h
counted_broken made first h c known uncut =
    let none = uncut_made made h uncut in
    let all = others_made made first h c known none in
    record {
      counts = with_made true made first h none (counts_broken (cond (has_halted h) is_halted runs_on) made first h (driven_since first h) uncut all);
      given = given_made true made first h c all none;
    }
