-- The epochs of a board so far were run for the parts of its course so far.
use Rattle.std.proofs.Common.{◌≡◌, ◌⊎◌, inl, inr, ℕ, ◌+◌, ◌-◌, ◌≤◌, Bool, true, false, not, nat_lt, List, [], ◌∷◌, ◌++◌, map, refl, sym, ap, ◌∙◌, subst, append_assoc, append-nil, arith}
use Rattle.std.proofs.lemmas.Bool.Decides.{nat_tests}
use Rattle.std.proofs.lemmas.List.Elements.{filter-append}
use Rattle.flight.specs.Places.{origin}
use Rattle.run_rules.specs.declared.State.{State}
use Rattle.run_texts.specs.Courses.{Passed}
use Rattle.run_texts.specs.Courses.Passed.{a_line, a_broken}
use Rattle.run_texts.specs.Parts.{Part, parts_of, lines_counted}
use Rattle.run_texts.specs.Parts.Ending.{by_end}
use Rattle.step_line.specs.Finishing.{ticks_together}
use Rattle.step_line.specs.Logs.{NewestFirst}
use Rattle.step_line.specs.declared.Mark.TheVariants as marks
use Rattle.step_line.specs.declared.Piece.{Piece}
use Rattle.step_line.specs.declared.Piece.TheVariants as pieces
use Rattle.board_rules.specs.Conduct.{Conducted, ticks_given}
use Rattle.board_rules.specs.Cuts.{part_outcomes, part_given, part_of}
use Rattle.board_rules.specs.Cuts.{parts_of as board_parts}
use Rattle.board_journal.specs.Openings.{Opening}
use Rattle.board_rules.specs.Parts.{Part as CutPart, pieces_in}
use Rattle.board_journal.specs.Steps.{Journal, published_of, planned_of, given_of, hand_of, known_of}
use Rattle.board_rules.proofs.Closing.{one_end}
use Rattle.board_rules.proofs.Counting.{given_sum}
use Rattle.board_rules.proofs.Ending.{NoEnds, planned_none}
use Rattle.board_rules.proofs.Keeping.{hand_is}
use Rattle.board_rules.proofs.Numbers.{pieces_are}
use Rattle.board_epochs.specs.Epochs.{Closed, Epochs, AreEpochs, IsEpoch, closed_log, log_behind, opening_behind, ticks_made}
use Rattle.board_epochs.specs.Epochs.Epochs.{goes, resets}
use Rattle.board_epochs.specs.Resets.{MayReset}
use Rattle.board_epochs.specs.Work.{Work, stage_of}
use Rattle.board_epochs.proofs.Opening.{opens_on}
use Rattle.epoch_courses.specs.Course.{is_marked, with_reset, is_unanswered, closed_course, open_journal, passed_by, passed_so_far, passed_at_reset, course_of}
use Rattle.epoch_courses.specs.Drives.{driven_by_cut, driven_since, is_pending}
use Rattle.epoch_courses.proofs.Drives.{Pends, part, part_place, parts_end, parts_broken_end, others_made, pends_there, uncut_made, runs_cut, runs_since}
use Rattle.epoch_courses.proofs.Made.{AllMade}
use Rattle.epoch_courses.proofs.Uncut.{uncut_there}
use Rattle.epoch_records.specs.SoFar.{AreRunSoFar, IsUnderWay}
use Rattle.epoch_runs.specs.Epochs.{is_end, closed_epochs, epochs_so_far, open_epoch, without_end}
use Rattle.epoch_runs.proofs.Ends.{ticks_behind}
use Rattle.epoch_runs.proofs.Parts.{so_far_by_parts, cuts_run, epoch_with, parts_made, run_for, same_epoch}
use Rattle.epoch_runs.proofs.Pieces.{IsBehind, behind_parts}
use Rattle.epoch_runs.proofs.Runs.{BrokenSo, broken_so, closed_run, marked_run}

-- ---- what was published, but for the end

pub none_out : (ps : List Piece) → NoEnds ps → without_end ps ≡ ps
none_out [] none = refl
none_out (pieces.Segment s ∷ ps) none = ap (λ (qs : List Piece). pieces.Segment s ∷ qs) (none_out ps none.1)
none_out (pieces.Mark m ∷ ps) none = ap (λ (qs : List Piece). pieces.Mark m ∷ qs) (none_out ps none.1)
none_out (pieces.End ∷ ps) none = absurd (none.0 refl)

pub out_on : (xs ys : List Piece) → without_end (xs ++ ys) ≡ without_end xs ++ without_end ys
out_on xs ys = filter-append (λ p. not (is_end p)) xs ys

given_out : (first : Opening) (h : Journal) → Conducted first h → without_end (given_of h) ≡ planned_of h
given_out first h c = by_end_or_not (one_end first h c)
  where
    by_end_or_not : (given_of h ≡ planned_of h) ⊎ (given_of h ≡ planned_of h ++ pieces.End ∷ []) → without_end (given_of h) ≡ planned_of h
    by_end_or_not (inl same) = ap without_end same ∙ none_out (planned_of h) (planned_none first h c)
    by_end_or_not (inr whole) = ap without_end whole ∙ out_on (planned_of h) (pieces.End ∷ []) ∙ append-nil (without_end (planned_of h)) ∙ none_out (planned_of h) (planned_none first h c)

out_there : (first : Opening) (h : Journal) → Conducted first h → without_end (published_of h) ++ without_end (hand_of h) ≡ pieces_in (board_parts first h) ++ part_given h
out_there first h c = sym (out_on (published_of h) (hand_of h)) ∙ ap without_end (sym (hand_is first h c)) ∙ given_out first h c ∙ pieces_are first h c

-- ---- the part that is under way

abbrev SoFar : ℕ → Opening → Journal → List Passed → Type 0
SoFar made first h passed = AreRunSoFar (parts_of (passed ++ [])) first.place (open_epoch made h ∷ [])

from_cuts : (made : ℕ) (first : Opening) (h b : Journal) (passed : List Passed) (since : List Piece) → without_end (published_of h) ≡ pieces_in (board_parts first b) ++ since → ticks_together (pieces_in (board_parts first b)) ≤ made
    → AreRunSoFar (parts_of (passed ++ [])) first.place (epoch_with (pieces_in (board_parts first b) ++ since) (ticks_together (pieces_in (board_parts first b)) + (made - ticks_together (pieces_in (board_parts first b)))) pieces.End ∷ [])
    → SoFar made first h passed
from_cuts made first h b passed since is few run =
    same_epoch AreRunSoFar so_far_by_parts (parts_of (passed ++ [])) first.place (pieces_in (board_parts first b) ++ since) (without_end (published_of h)) _ made pieces.End [] (sym is) (sym (ticks_behind (board_parts first b) made few)) run

-- behind cuts that are all made
under_way : (made : ℕ) (first : Opening) (h : Journal) (p : Part) → Conducted first h → lines_counted p ≡ part_outcomes h
    → (behind : IsBehind (board_parts first h) (without_end (published_of h)) (without_end (hand_of h)) (part_given h)) → IsUnderWay p behind.since (made - ticks_together (pieces_in (board_parts first h)))
under_way made first h p c counted behind = record {
  hand = without_end (hand_of h);
  given = part_given h;
  behind = [];
  both = behind.both ∙ sym (append-nil (part_given h));
  undone = tt;
  last = (driven_since first h).plan;
  run = run_for first h (driven_since first h) (lines_counted p) c (runs_since first h c) counted;
}

line_by_line : (made : ℕ) (first : Opening) (h : Journal) → Conducted first h → made ≤ ticks_together (without_end (published_of h)) → AllMade made h → SoFar made first h (passed_by false made first h)
line_by_line made first h c few cuts =
    let qs = board_parts first h in
    let os = part_outcomes h in
    let p : Part = part os [] by_end in
    let low = parts_made made first h c cuts in
    let n : ℕ = made - ticks_together (pieces_in qs) in
    let behind = behind_parts qs (without_end (published_of h)) (without_end (hand_of h)) (part_given h) (out_there first h c) (omega (arith, low, few)) in
    let e = epoch_with behind.since n pieces.End in
    from_cuts made first h h (passed_by false made first h) behind.since behind.is low
    (cuts_run AreRunSoFar so_far_by_parts made first h [] behind.since n pieces.End [] c cuts
    (subst (λ (ps : List Part). AreRunSoFar ps (part_place first h) (e ∷ [])) (sym (parts_end os)) (e, refl, under_way made first h p c (append-nil os) behind)))

not_made : (n m : ℕ) → nat_lt n m ≡ false → m ≤ n
not_made n m none = grind (arith, nat_tests)

-- before a cut that is not made
before_cut : (made : ℕ) (first : Opening) (h : Journal) → Conducted first h → made ≤ ticks_together (without_end (published_of h)) → Pends made first h → SoFar made first h (passed_by false made first h)
before_cut made first h c few x =
    let b = x.before in
    let qs = board_parts first b in
    let os = part_outcomes b in
    let q = part_of first x.k b in
    let mark = pieces.Mark (marks.Cut x.k) in
    let p : Part = part os [] by_end in
    let low = parts_made made first b x.conducted.1 x.all in
    let n : ℕ = made - ticks_together (pieces_in qs) in
    let out : without_end (published_of h) ++ without_end (hand_of h) ≡ pieces_in qs ++ (part_given b ++ mark ∷ part_given h) =
    out_there first h c ∙ ap (λ (ps : List CutPart). pieces_in ps ++ part_given h) x.parts
    ∙ append_assoc (pieces_in qs) (part_given b ++ mark ∷ []) (part_given h) ∙ ap (λ (ps : List Piece). pieces_in qs ++ ps) (append_assoc (part_given b) (mark ∷ []) (part_given h)) in
    let behind = behind_parts qs (without_end (published_of h)) (without_end (hand_of h)) (part_given b ++ mark ∷ part_given h) out (omega (arith, low, few)) in
    let e = epoch_with behind.since n pieces.End in
    let given = given_sum first b x.conducted.1 in
    let none = not_made (ticks_given b) made x.unmade in
    let way : IsUnderWay p behind.since n = record {
      hand = without_end (hand_of h);
      given = part_given b;
      behind = mark ∷ part_given h;
      both = behind.both;
      undone = omega (arith, given, none);
      last = (driven_by_cut q).plan;
      run = run_for first b (driven_by_cut q) (os ++ []) x.conducted.1 (runs_cut first b x.k x.conducted) (append-nil os);
    } in
    subst (λ (ps : List Passed). SoFar made first h ps) (sym x.passed)
    (from_cuts made first h b (passed_by false made first b) behind.since behind.is low
    (cuts_run AreRunSoFar so_far_by_parts made first b [] behind.since n pieces.End [] x.conducted.1 x.all
    (subst (λ (ps : List Part). AreRunSoFar ps (part_place first b) (e ∷ [])) (sym (parts_end os)) (e, refl, way))))

answered_so_far : (made : ℕ) (first : Opening) (h : Journal) → Conducted first h → known_of h ≤ made → made ≤ ticks_together (without_end (published_of h)) → SoFar made first h (passed_by false made first h)
answered_so_far made first h c known few = by_pending (is_pending made h) refl
  where
    by_pending : (t : Bool) → is_pending made h ≡ t → SoFar made first h (passed_by false made first h)
    by_pending true pends = before_cut made first h c few (pends_there made first h c known pends)
    by_pending false none = line_by_line made first h c few (others_made made first h c known none)

-- a last line that is broken, where a reset is being worked
broken_so_far : (made : ℕ) (first : Opening) (h : Journal) → Conducted first h → made ≤ ticks_together (without_end (published_of h)) → AllMade made h → BrokenSo made first h → SoFar made first h (passed_by true made first h)
broken_so_far made first h c few cuts x =
    let qs = board_parts first h in
    let b = x.before in
    let os = part_outcomes b in
    let p : Part = part os (x.o ∷ []) by_end in
    let low = parts_made made first h c cuts in
    let n : ℕ = made - ticks_together (pieces_in qs) in
    let behind = behind_parts qs (without_end (published_of h)) (without_end (hand_of h)) (part_given h) (out_there first h c) (omega (arith, low, few)) in
    let e = epoch_with behind.since n pieces.End in
    let here : AreRunSoFar (parts_of (map a_line os ++ a_broken x.o ∷ [])) (part_place first b) (e ∷ []) =
    subst (λ (ps : List Part). AreRunSoFar ps (part_place first b) (e ∷ [])) (sym (parts_broken_end os x.o)) (e, refl, under_way made first h p c x.outcomes behind) in
    let whole = cuts_run AreRunSoFar so_far_by_parts made first b (a_broken x.o ∷ []) behind.since n pieces.End [] x.conducted.1 x.all here in
    let same : passed_by true made first h ++ [] ≡ passed_by false made first b ++ a_broken x.o ∷ [] = append-nil (passed_by true made first h) ∙ x.passed in
    from_cuts made first h h (passed_by true made first h) behind.since behind.is low
    (subst (λ (ps : List Passed). AreRunSoFar (parts_of ps) first.place (epoch_with (pieces_in qs ++ behind.since) (ticks_together (pieces_in qs) + n) pieces.End ∷ [])) (sym same)
    (subst (λ (xs : List CutPart). AreRunSoFar (parts_of (passed_by false made first b ++ a_broken x.o ∷ [])) first.place (epoch_with (pieces_in xs ++ behind.since) (ticks_together (pieces_in xs) + n) pieces.End ∷ [])) (sym x.parts) whole))

at_reset_so_far : (made : ℕ) (first : Opening) (h : Journal) → IsEpoch first h → MayReset first h → known_of h ≤ made → made ≤ ticks_together (without_end (published_of h)) → SoFar made first h (passed_at_reset made first h)
at_reset_so_far made first h is may known few = by_one (is_unanswered h) refl
  where
    by_one : (t : Bool) → is_unanswered h ≡ t → SoFar made first h (passed_by (is_unanswered h) made first h)
    by_one true one =
        let uncut = uncut_there first h is may one in
        let cuts = others_made made first h is.conducted known (uncut_made made h uncut) in
        subst (λ (t : Bool). SoFar made first h (passed_by t made first h)) (sym one) (broken_so_far made first h is.conducted few cuts (broken_so made first h is.conducted one uncut cuts))
    by_one false all = subst (λ (t : Bool). SoFar made first h (passed_by t made first h)) (sym all) (answered_so_far made first h is.conducted known few)

-- ---- all of it

pub epochs_run_so_far : (blocks : ℕ) (state : State) (made : ℕ) (es : Epochs) → AreEpochs blocks state es → known_of (open_journal es) ≤ made → made ≤ ticks_together (without_end (published_of (open_journal es)))
    → AreRunSoFar (parts_of (course_of blocks state made es)) origin (epochs_so_far blocks state made es)
epochs_run_so_far blocks state made (goes es h) c known few =
    let first = opening_behind blocks state es in
    let here = answered_so_far made first h c.1.conducted known few in
    closed_run AreRunSoFar so_far_by_parts blocks state es (passed_so_far made first h) (open_epoch made h ∷ []) c.0
    (subst (λ (ps : List Passed). AreRunSoFar (parts_of ps) first.place (open_epoch made h ∷ [])) (append-nil (passed_so_far made first h)) here)
epochs_run_so_far blocks state made (resets es h w) c known few =
    let first = opening_behind blocks state es in
    let here = at_reset_so_far made first h c.1.epoch c.1.may known few in
    closed_run AreRunSoFar so_far_by_parts blocks state es (passed_at_reset made first h) (open_epoch made h ∷ []) c.0
    (subst (λ (ps : List Passed). AreRunSoFar (parts_of ps) first.place (open_epoch made h ∷ [])) (append-nil (passed_at_reset made first h)) here)

-- Behind a reset whose mark is published, where nothing was done yet.
pub marked_run_so_far : (blocks : ℕ) (state : State) (es : NewestFirst Closed) (h : Journal) (w : Work) → AreEpochs blocks state (resets es h w) → is_marked (stage_of (log_behind (closed_log es) h) w) ≡ true
    → AreRunSoFar (parts_of (closed_course blocks state (with_reset es h w))) origin (epochs_so_far blocks state 0 (goes (with_reset es h w) []))
marked_run_so_far blocks state es h w c marked =
    let first = opening_behind blocks state (with_reset es h w) in
    subst (λ (ps : List Passed). AreRunSoFar (parts_of ps) origin (closed_epochs blocks state (with_reset es h w) ++ open_epoch 0 [] ∷ [])) (append-nil (closed_course blocks state (with_reset es h w)))
    (marked_run AreRunSoFar so_far_by_parts blocks state es h w [] (open_epoch 0 [] ∷ []) c marked (answered_so_far 0 first [] (opens_on (ticks_made es) (opening_behind blocks state es) h w c.1.epoch.conducted) (omega (arith)) (omega (arith))))
