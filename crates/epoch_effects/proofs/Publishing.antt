-- What was published in an epoch are the pieces of its parts.
use Rattle.std.proofs.Common.{◌≡◌, ℕ, ◌≤◌, ◌⊎◌, inl, inr, Bool, true, false, not, cond, nat_lt, List, [], ◌∷◌, ◌++◌, map, reverse, refl, sym, ap, ◌∙◌, subst, append_assoc, append-nil, arith}
use Rattle.std.proofs.lemmas.Bool.Decides.{nat_tests}
use Rattle.std.proofs.lemmas.List.{map-append, reverse-append}
use Rattle.flight.specs.Places.{end_from}
use Rattle.run_rules.specs.Work.{Outcome}
use Rattle.run_texts.specs.Courses.{Passed}
use Rattle.run_texts.specs.Courses.Passed.{a_line, a_broken, a_cut}
use Rattle.step_line.specs.Finishing.{ticks_together}
use Rattle.step_line.specs.declared.Mark.TheVariants as marks
use Rattle.step_line.specs.declared.Piece.{Piece}
use Rattle.step_line.specs.declared.Piece.TheVariants as pieces
use Rattle.board_rules.specs.Conduct.{Conducted, ticks_given}
use Rattle.board_rules.specs.Cuts.{part_given, part_of, has_halted}
use Rattle.board_rules.specs.Cuts.{parts_of as board_parts}
use Rattle.board_journal.specs.Openings.{Opening}
use Rattle.board_rules.specs.Parts.{Part as CutPart}
use Rattle.board_rules.specs.Parts.{pieces_in as cut_pieces}
use Rattle.board_journal.specs.Steps.{Journal, given_of, planned_of, hand_of, known_of}
use Rattle.board_journal.specs.Steps.Step.{began, cut}
use Rattle.board_rules.proofs.Closing.{no_more_ticks, one_end}
use Rattle.board_rules.proofs.Keeping.{hand_is}
use Rattle.board_rules.proofs.Numbers.{pieces_are}
use Rattle.epoch_courses.specs.Course.{is_made, passed_by}
use Rattle.epoch_courses.specs.Drives.{Driven, is_pending, driven_by_cut, driven_since, drives_in}
use Rattle.epoch_courses.proofs.Broken.{IsUncut}
use Rattle.epoch_courses.proofs.Drives.{others_made, uncut_made}
use Rattle.epoch_courses.proofs.Made.{AllMade}
use Rattle.epoch_effects.specs.Effects.{Stop}
use Rattle.epoch_effects.specs.Effects.Stop.{runs_on, is_halted, is_cut}
use Rattle.epoch_effects.specs.Over.{effects_with, stop_at}
use Rattle.epoch_effects.specs.Pieces.{cut_numbers, pieces_between, pieces_of, IsBehind, ArePublished}
use Rattle.epoch_effects.proofs.Changes.{with_one_cut}
use Rattle.epoch_effects.proofs.Counts.{LastUnmade, last_unmade, stop_made}
use Rattle.epoch_effects.proofs.Parts.{all_made}

-- ---- the numbers of the cuts

numbers_both : (ps qs : List Passed) → cut_numbers (ps ++ qs) ≡ cut_numbers ps ++ cut_numbers qs
numbers_both [] qs = refl
numbers_both (a_cut k at ∷ ps) qs = ap (λ (ks : List ℕ). k ∷ ks) (numbers_both ps qs)
numbers_both (_ ∷ ps) qs = numbers_both ps qs

begun_none : (broken : Bool) (o : Outcome) → cut_numbers (cond broken (a_broken o) (a_line o) ∷ []) ≡ []
begun_none true o = refl
begun_none false o = refl

abbrev numbers_of : List CutPart → List ℕ
numbers_of qs = map (λ (q : CutPart). q.number) (reverse qs)

numbers_push : (q : CutPart) (qs : List CutPart) → numbers_of (q ∷ qs) ≡ numbers_of qs ++ q.number ∷ []
numbers_push q qs = ap (map (λ (x : CutPart). x.number)) (reverse-append (q ∷ []) qs) ∙ map-append (λ (x : CutPart). x.number) (reverse qs) (q ∷ [])

numbers_are : (broken : Bool) (made : ℕ) (first : Opening) (h : Journal) → AllMade made h → cut_numbers (passed_by broken made first h) ≡ numbers_of (board_parts first h)
numbers_are broken made first [] all = refl
numbers_are broken made first (began o ∷ h) all =
    numbers_both (passed_by false made first h) (cond broken (a_broken o) (a_line o) ∷ []) ∙ ap (λ (ks : List ℕ). cut_numbers (passed_by false made first h) ++ ks) (begun_none broken o)
    ∙ append-nil (cut_numbers (passed_by false made first h)) ∙ numbers_are false made first h all
numbers_are broken made first (cut k ∷ h) all =
    let at = end_from first.place (given_of h) in
    numbers_both (passed_by broken made first h) (cond (is_made made h) (a_cut k at ∷ []) [])
    ∙ ap (λ (t : Bool). cut_numbers (passed_by broken made first h) ++ cut_numbers (cond t (a_cut k at ∷ []) [])) all.0
    ∙ ap (λ (ks : List ℕ). ks ++ k ∷ []) (numbers_are broken made first h all.1)
    ∙ sym (numbers_push (part_of first k h) (board_parts first h))
numbers_are broken made first (_ ∷ h) all = numbers_are broken made first h all

-- ---- the pieces of parts

between : (qs : List CutPart) (ks : List ℕ) (ds : List Driven) → pieces_between (numbers_of qs ++ ks) (map driven_by_cut (reverse qs) ++ ds) ≡ cut_pieces qs ++ pieces_between ks ds
between [] ks ds = refl
between (q ∷ qs) ks ds =
    let mark = pieces.Mark (marks.Cut q.number) in
    ap (λ (ns : List ℕ). pieces_between ns (map driven_by_cut (reverse (q ∷ qs)) ++ ds)) (ap (λ (ns : List ℕ). ns ++ ks) (numbers_push q qs) ∙ append_assoc (numbers_of qs) (q.number ∷ []) ks)
    ∙ ap (λ (xs : List Driven). pieces_between (numbers_of qs ++ q.number ∷ ks) xs) (with_one_cut q qs ds)
    ∙ between qs (q.number ∷ ks) (driven_by_cut q ∷ ds)
    ∙ ap (λ (ps : List Piece). cut_pieces qs ++ ps) (sym (append_assoc q.given (mark ∷ []) (pieces_between ks ds)))
    ∙ sym (append_assoc (cut_pieces qs) (q.given ++ mark ∷ []) (pieces_between ks ds))

-- with a last part
between_last : (qs : List CutPart) (d : Driven) → pieces_between (numbers_of qs) (map driven_by_cut (reverse qs) ++ d ∷ []) ≡ cut_pieces qs ++ d.given
between_last qs d =
    ap (λ (ks : List ℕ). pieces_between ks (map driven_by_cut (reverse qs) ++ d ∷ [])) (sym (append-nil (numbers_of qs))) ∙ between qs [] (d ∷ [])
    ∙ ap (λ (ps : List Piece). cut_pieces qs ++ ps) (append-nil d.given)

-- ---- what was published

halted_end : (t : Bool) → IsBehind (cond t is_halted runs_on) (pieces.End ∷ [])
halted_end true = inr refl
halted_end false = inr refl

halted_none : (t : Bool) → IsBehind (cond t is_halted runs_on) []
halted_none true = inl refl
halted_none false = inl refl

not_cut : (t : Bool) → cond t is_halted runs_on ≡ is_cut → ⊥
not_cut true is = absurd cc
not_cut false is = absurd cc

abbrev Published : (broken : Bool) → ℕ → Opening → Journal → Type 0
Published broken made first h = ArePublished (effects_with (passed_by broken made first h) made first h)

-- where all cuts are made
published_made : (broken : Bool) (made : ℕ) (first : Opening) (h : Journal) → Conducted first h → AllMade made h → is_pending made h ≡ false → Published broken made first h
published_made broken made first h c all none = by_end (one_end first h c)
  where
    are : pieces_of (effects_with (passed_by broken made first h) made first h) ≡ planned_of h
    are =
        ap (λ (ks : List ℕ). pieces_between ks (drives_in made first h)) (numbers_are broken made first h all)
        ∙ ap (λ (ds : List Driven). pieces_between (numbers_of (board_parts first h)) ds) (all_made made first h none)
        ∙ between_last (board_parts first h) (driven_since first h) ∙ sym (pieces_are first h c)

    stops : stop_at made h ≡ cond (has_halted h) is_halted runs_on
    stops = stop_made made h none

    by_end : (given_of h ≡ planned_of h) ⊎ (given_of h ≡ planned_of h ++ pieces.End ∷ []) → Published broken made first h
    by_end (inl same) = record {
      hand = hand_of h;
      behind = [];
      both = sym (hand_is first h c) ∙ same ∙ sym are ∙ sym (append-nil (pieces_of (effects_with (passed_by broken made first h) made first h)));
      rest = subst (λ (s : Stop). IsBehind s []) (sym stops) (halted_none (has_halted h));
      undone = λ is. absurd (not_cut (has_halted h) (sym stops ∙ is));
    }
    by_end (inr ended) = record {
      hand = hand_of h;
      behind = pieces.End ∷ [];
      both = sym (hand_is first h c) ∙ ended ∙ ap (λ (ps : List Piece). ps ++ pieces.End ∷ []) (sym are);
      rest = subst (λ (s : Stop). IsBehind s (pieces.End ∷ [])) (sym stops) (halted_end (has_halted h));
      undone = λ is. absurd (not_cut (has_halted h) (sym stops ∙ is));
    }

-- where the last is not: no tick of its mark is made
abbrev before_last : List CutPart → List Piece
before_last [] = []
before_last (q ∷ qs) = cut_pieces qs ++ q.given

few_made : (given made : ℕ) → not (nat_lt given made) ≡ true → made ≤ given
few_made given made is = grind (arith, nat_tests)

-- the end has no tick
planned_ticks : (h : Journal) → (given_of h ≡ planned_of h) ⊎ (given_of h ≡ planned_of h ++ pieces.End ∷ []) → ticks_given h ≡ ticks_together (planned_of h)
planned_ticks h (inl same) = ap ticks_together same
planned_ticks h (inr ended) = ap ticks_together ended ∙ no_more_ticks (planned_of h)

undone_there : (made : ℕ) (first : Opening) (h : Journal) → Conducted first h → is_pending made h ≡ true → made ≤ ticks_together (before_last (board_parts first h))
undone_there made first [] c one = absurd cc
undone_there made first (began o ∷ h) c one = absurd cc
undone_there made first (cut k ∷ h) c one =
    let few = few_made (ticks_given h) made one in
    let same = planned_ticks h (one_end first h c.1) in
    let are = ap ticks_together (pieces_are first h c.1) in
    omega (arith, few, same, are)
undone_there made first (_ ∷ h) c one = undone_there made first h c.1 one

with_mark : (ps qs : List Piece) (m : Piece) (more : List Piece) → (ps ++ (qs ++ m ∷ [])) ++ more ≡ (ps ++ qs) ++ m ∷ more
with_mark ps qs m more = append_assoc ps (qs ++ m ∷ []) more ∙ ap (λ (xs : List Piece). ps ++ xs) (append_assoc qs (m ∷ []) more) ∙ sym (append_assoc ps qs (m ∷ more))

published_unmade : (made : ℕ) (first : Opening) (h : Journal) → Conducted first h → known_of h ≤ made → is_pending made h ≡ true → Published false made first h
published_unmade made first h c known one = by_end (one_end first h c)
  where
    u : LastUnmade made first h
    u = last_unmade made first h c known one

    front : List Piece
    front = cut_pieces (board_parts first u.before) ++ u.q.given

    mark : Piece
    mark = pieces.Mark (marks.Cut u.q.number)

    are : pieces_of (effects_with (passed_by false made first h) made first h) ≡ front
    are =
        ap (λ (ps : List Passed). pieces_between (cut_numbers ps) (drives_in made first h)) u.passed
        ∙ ap (λ (ks : List ℕ). pieces_between ks (drives_in made first h)) (numbers_are false made first u.before u.all)
        ∙ ap (λ (ds : List Driven). pieces_between (numbers_of (board_parts first u.before)) ds) u.are
        ∙ between_last (board_parts first u.before) (driven_by_cut u.q)

    planned : planned_of h ≡ front ++ mark ∷ part_given h
    planned = pieces_are first h c ∙ ap (λ (qs : List CutPart). cut_pieces qs ++ part_given h) u.parts ∙ with_mark (cut_pieces (board_parts first u.before)) u.q.given mark (part_given h)

    stops : stop_at made h ≡ is_cut
    stops = ap (λ (t : Bool). cond t is_cut (cond (has_halted h) is_halted runs_on)) one

    few : made ≤ ticks_together (pieces_of (effects_with (passed_by false made first h) made first h))
    few = let low = undone_there made first h c one in let e = ap (λ (qs : List CutPart). ticks_together (before_last qs)) u.parts in let same = ap ticks_together are in omega (arith, low, e, same)

    published : (more : List Piece) → given_of h ≡ front ++ mark ∷ more → Published false made first h
    published more given = record {
      hand = hand_of h;
      behind = mark ∷ more;
      both = sym (hand_is first h c) ∙ given ∙ ap (λ (ps : List Piece). ps ++ mark ∷ more) (sym are);
      rest = subst (λ (s : Stop). IsBehind s (mark ∷ more)) (sym stops) tt;
      undone = λ is. few;
    }

    by_end : (given_of h ≡ planned_of h) ⊎ (given_of h ≡ planned_of h ++ pieces.End ∷ []) → Published false made first h
    by_end (inl same) = published (part_given h) (same ∙ planned)
    by_end (inr ended) = published (part_given h ++ pieces.End ∷ []) (ended ∙ ap (λ (ps : List Piece). ps ++ pieces.End ∷ []) planned ∙ append_assoc front (mark ∷ part_given h) (pieces.End ∷ []))

-- ---- of each epoch

pub published_so_far : (made : ℕ) (first : Opening) (h : Journal) → Conducted first h → known_of h ≤ made → Published false made first h
published_so_far made first h c known = by_pending (is_pending made h) refl
  where
    by_pending : (t : Bool) → is_pending made h ≡ t → Published false made first h
    by_pending true one = published_unmade made first h c known one
    by_pending false none = published_made false made first h c (others_made made first h c known none) none

pub published_broken : (made : ℕ) (first : Opening) (h : Journal) → Conducted first h → known_of h ≤ made → IsUncut h → Published true made first h
published_broken made first h c known uncut =
    let none = uncut_made made h uncut in
    published_made true made first h c (others_made made first h c known none) none
