-- The parts of an epoch that cuts have ended have the pieces that were given for them.
use Rattle.std.proofs.Common.{◌≡◌, ℕ, ◌+◌, ◌≤◌, Bool, true, false, cond, nat_lt, List, [], ◌∷◌, ◌++◌, map, refl, sym, ap, ◌∙◌, subst, append_assoc, append-nil, arith}
use Rattle.std.proofs.lemmas.Bool.Decides.{nat_tests}
use Rattle.std.proofs.lemmas.List.{map-append}
use Rattle.std.specs.List.{AllByRecursion}
use Rattle.flight.specs.Places.{end_from}
use Rattle.flight.proofs.Places.{moved_both}
use Rattle.planner_runs.specs.Runs.{all_asked}
use Rattle.run_rules.specs.Cuts.{LosesJogsAlone}
use Rattle.run_rules.specs.Work.{Outcome}
use Rattle.run_texts.specs.Courses.{Passed}
use Rattle.run_texts.specs.Courses.Passed.{a_line, a_broken, a_cut, a_reset}
use Rattle.run_rules.specs.Told.{asked_in}
use Rattle.run_texts.specs.Fronts.{BeginsWith}
use Rattle.run_texts.specs.Parts.{Part, is_ending, parts_of, ends_here, onto_first, begun_first}
use Rattle.run_texts.specs.Parts.Ending.{by_cut, by_reset, by_end}
use Rattle.run_texts.specs.Points.{Point}
use Rattle.run_texts.specs.Recorded.{ticks_for_all}
use Rattle.run_texts.proofs.Events.{ticks_on}
use Rattle.step_line.specs.Finishing.{ticks_together}
use Rattle.step_line.specs.declared.Mark.TheVariants as marks
use Rattle.step_line.specs.declared.Piece.{Piece}
use Rattle.step_line.specs.declared.Piece.TheVariants as pieces
use Rattle.step_line.specs.declared.Record.{Record}
use Rattle.units.specs.declared.Steps3.{Steps3}
use Rattle.board_rules.specs.Conduct.{Conducted, ticks_given}
use Rattle.board_rules.specs.Cuts.{part_outcomes, part_given, part_of}
use Rattle.board_rules.specs.Cuts.{parts_of as board_parts}
use Rattle.board_journal.specs.Openings.{Opening}
use Rattle.board_rules.specs.Parts.{pieces_in}
use Rattle.board_journal.specs.Steps.{Journal, open_of, before_of, given_of}
use Rattle.board_journal.specs.Steps.Step.{began, cut}
use Rattle.board_rules.specs.Turns.{is_locked}
use Rattle.board_rules.proofs.Causing.{becomes_now}
use Rattle.board_rules.proofs.Counting.{given_sum}
use Rattle.board_rules.proofs.Numbers.{parts_are}
use Rattle.epoch_courses.specs.Course.{is_made, passed_by}
use Rattle.epoch_courses.specs.Drives.{Driven, driven_by_cut}
use Rattle.epoch_courses.proofs.Drives.{Runs, part, part_place, part_leads, parts_cut, runs_cut}
use Rattle.epoch_courses.proofs.Made.{AllMade}
use Rattle.epoch_records.specs.Epochs.{Epoch}
use Rattle.epoch_records.specs.Runs.{AreRun, AskForNoEnding, EndsSo, IsRunFor}
use Rattle.epoch_records.specs.SoFar.{AreRunSoFar}
use Rattle.epoch_records.proofs.Asking.{ask_for_no_ending}
use Rattle.epoch_runs.proofs.Pieces.{part_more}

-- ---- lines ask for no ending

abbrev Inside : List Record → Type 0
Inside rs = AllByRecursion (λ r. is_ending r ≡ false) rs

both_inside : (xs ys : List Record) → Inside xs → Inside ys → Inside (xs ++ ys)
both_inside [] ys a b = b
both_inside (x ∷ xs) ys a b = (a.0, both_inside xs ys a.1 b)

abbrev point_there : Opening → Journal → Point
point_there first h = record { before = before_of first h; locked = is_locked first h; has_line = false; unanswered = false }

pub inside_there : (first : Opening) (h : Journal) → Conducted first h → AskForNoEnding (part_outcomes h)
inside_there first [] c = tt
inside_there first (began o ∷ h) c =
    subst Inside (sym (ticks_on (part_outcomes h) (o ∷ [])))
    (both_inside (ticks_for_all (part_outcomes h)) (ticks_for_all (o ∷ [])) (inside_there first h c.1) (ask_for_no_ending true (point_there first h) (open_of h) o (becomes_now first h o c)))
inside_there first (cut k ∷ h) c = tt
inside_there first (_ ∷ h) c = inside_there first h c.1

-- ---- a run

abbrev pub run_for : (first : Opening) (h : Journal) (d : Driven) (lines : List Outcome) → Conducted first h → Runs first.blocks h d → lines ≡ part_outcomes h → IsRunFor lines d.given d.plan
run_for first h d lines c r same = record {
  most = first.blocks;
  start = d.start;
  starts = r.starts;
  actions = d.actions;
  never = r.never;
  run = r.run;
  asks = subst (λ (os : List Outcome). BeginsWith (asked_in os) (all_asked d.actions)) (sym same) (record { rest = d.left; is = r.asks });
  inside = subst AskForNoEnding (sym same) (inside_there first h c);
}

-- ---- where a part begins

pub cut_place : (first : Opening) (h : Journal) → Conducted first h → end_from first.place (pieces_in (board_parts first h)) ≡ part_place first h
cut_place first [] c = refl
cut_place first (cut k ∷ h) c =
    let given = part_given h in
    let at : Steps3 = end_from first.place (pieces_in (board_parts first h)) in
    moved_both first.place (pieces_in (board_parts first h)) (given ++ pieces.Mark (marks.Cut k) ∷ [])
    ∙ moved_both at given (pieces.Mark (marks.Cut k) ∷ [])
    ∙ ap (λ (place : Steps3). end_from place given) (cut_place first h c.1)
    ∙ sym (part_leads first h)
cut_place first (_ ∷ h) c = cut_place first h c.1

-- ---- parts that cuts have ended

abbrev pub epoch_with : List Piece → ℕ → Piece → Epoch
epoch_with ps n closing = record { pieces = ps; done = n; closing = closing }

-- some parts are at hand
pub record Some (ps : List Part) : Type 0 where
  pub first : Part
  pub others : List Part
  pub is : ps ≡ first ∷ others

onto_some : (o : Outcome) (ps : List Part) → Some ps → Some (onto_first o ps)
onto_some o [] x = absurd (let e = x.is in cc)
onto_some o (p ∷ ps) x = record { first = record p { lines = o ∷ p.lines }; others = ps; is = refl }

begun_some : (o : Outcome) (ps : List Part) → Some ps → Some (begun_first o ps)
begun_some o [] x = absurd (let e = x.is in cc)
begun_some o (p ∷ ps) x = record { first = record p { begun = o ∷ p.begun }; others = ps; is = refl }

-- a course has a part
pub parts_some : (ps : List Passed) → Some (parts_of ps)
parts_some [] = record { first = ends_here by_end; others = []; is = refl }
parts_some (a_line o ∷ ps) = onto_some o (parts_of ps) (parts_some ps)
parts_some (a_broken o ∷ ps) = begun_some o (parts_of ps) (parts_some ps)
parts_some (a_cut k at ∷ ps) = record { first = ends_here (by_cut k at); others = parts_of ps; is = refl }
parts_some (a_reset r ∷ ps) = record { first = ends_here (by_reset r); others = parts_of ps; is = refl }

-- what is said of parts and of epochs, part by part: of all of them, or of those so far
abbrev pub SaysByParts : (List Part → Steps3 → List Epoch → Type 0) → Type 0
SaysByParts R = (p : Part) (ps : List Part) (place : Steps3) (es : List Epoch) → Some ps → EndsSo place p p.ending es (λ at rest. R ps at rest) → R (p ∷ ps) place es

pub all_by_parts : SaysByParts AreRun
all_by_parts p ps place es some is = is

so_far_some : (p : Part) (ps : List Part) (place : Steps3) (es : List Epoch) (x : Some ps) → EndsSo place p p.ending es (λ at rest. AreRunSoFar (x.first ∷ x.others) at rest) → AreRunSoFar (p ∷ x.first ∷ x.others) place es
so_far_some p ps place es x is = is

pub so_far_by_parts : SaysByParts AreRunSoFar
so_far_by_parts p ps place es x is =
    subst (λ (qs : List Part). AreRunSoFar (p ∷ qs) place es) (sym x.is) (so_far_some p ps place es x (subst (λ (qs : List Part). EndsSo place p p.ending es (λ at rest. AreRunSoFar qs at rest)) x.is is))

module _ (R : List Part → Steps3 → List Epoch → Type 0) (cons : SaysByParts R) where
  pub same_epoch : (ps : List Part) (place : Steps3) (xs ys : List Piece) (m n : ℕ) (closing : Piece) (es : List Epoch) → xs ≡ ys → m ≡ n → R ps place (epoch_with xs m closing ∷ es) → R ps place (epoch_with ys n closing ∷ es)
  same_epoch ps place xs ys m n closing es same count run =
      subst (λ (k : ℕ). R ps place (epoch_with ys k closing ∷ es)) count (subst (λ (zs : List Piece). R ps place (epoch_with zs m closing ∷ es)) same run)

  -- What was given since the last cut, and more, is of the parts behind it: so all pieces of the epoch are of its parts.
  pub cuts_run : (made : ℕ) (first : Opening) (h : Journal) (rest : List Passed) (since : List Piece) (n : ℕ) (closing : Piece) (es : List Epoch) → Conducted first h → AllMade made h
      → R (parts_of (map a_line (part_outcomes h) ++ rest)) (part_place first h) (epoch_with since n closing ∷ es)
      → R (parts_of (passed_by false made first h ++ rest)) first.place (epoch_with (pieces_in (board_parts first h) ++ since) (ticks_together (pieces_in (board_parts first h)) + n) closing ∷ es)
  cuts_run made first [] rest since n closing es c all run = same_epoch (parts_of rest) first.place since since n (0 + n) closing es refl (omega arith) run
  cuts_run made first (began o ∷ h) rest since n closing es c all run =
      subst (λ (ps : List Passed). R (parts_of ps) first.place (epoch_with (pieces_in (board_parts first h) ++ since) (ticks_together (pieces_in (board_parts first h)) + n) closing ∷ es)) (sym (append_assoc (passed_by false made first h) (a_line o ∷ []) rest))
      (cuts_run made first h (a_line o ∷ rest) since n closing es c.1 all
      (subst (λ (ps : List Passed). R (parts_of ps) (part_place first h) (epoch_with since n closing ∷ es))
      (ap (λ (ps : List Passed). ps ++ rest) (map-append a_line (part_outcomes h) (o ∷ [])) ∙ append_assoc (map a_line (part_outcomes h)) (a_line o ∷ []) rest) run))
  cuts_run made first (cut k ∷ h) rest since n closing es c all run =
      let at = end_from first.place (given_of h) in
      let q = part_of first k h in
      let is = (parts_are first (cut k ∷ h) c).0 in
      let qs = board_parts first h in
      let p : Part = part (part_outcomes h) [] (by_cut k at) in
      let mark = pieces.Mark (marks.Cut k) in
      let behind : List Piece = q.given ++ mark ∷ since in
      let m : ℕ = ticks_together q.given + 1 + n in
      let passed : (passed_by false made first h ++ cond (is_made made h) (a_cut k at ∷ []) []) ++ rest ≡ passed_by false made first h ++ a_cut k at ∷ rest =
      ap (λ (t : Bool). (passed_by false made first h ++ cond t (a_cut k at ∷ []) []) ++ rest) all.0 ∙ append_assoc (passed_by false made first h) (a_cut k at ∷ []) rest in
      let lines : part_outcomes h ++ [] ≡ part_outcomes h = append-nil (part_outcomes h) in
      let here = cuts_run made first h (a_cut k at ∷ rest) behind m closing es c.1 all.1
      (subst (λ (ps : List Part). R ps (part_place first h) (epoch_with behind m closing ∷ es)) (sym (parts_cut (part_outcomes h) k at rest)) (cons p (parts_of rest) (part_place first h) (epoch_with behind m closing ∷ es) (parts_some rest) (
        q.given,
        epoch_with since n closing,
        record { pieces = refl; done = refl; closing = refl },
        record {
          last = q.plan;
          run = run_for first h (driven_by_cut q) (part_outcomes h ++ []) c.1 (runs_cut first h k c) lines;
          stops = is.stops;
          jogs = subst (λ (os : List Outcome). LosesJogsAlone (ticks_together q.given) os) (sym lines) is.jogs;
          stands = part_leads first h;
        },
        run,
      ))) in
      subst (λ (ps : List Passed). R (parts_of ps) first.place (epoch_with (pieces_in (q ∷ qs) ++ since) (ticks_together (pieces_in (q ∷ qs)) + n) closing ∷ es)) (sym passed)
      (same_epoch (parts_of (passed_by false made first h ++ a_cut k at ∷ rest)) first.place (pieces_in qs ++ behind) (pieces_in (q ∷ qs) ++ since) (ticks_together (pieces_in qs) + m) (ticks_together (pieces_in (q ∷ qs)) + n) closing es
      (sym (append_assoc (pieces_in qs) (q.given ++ mark ∷ []) since ∙ ap (λ (ps : List Piece). pieces_in qs ++ ps) (append_assoc q.given (mark ∷ []) since)))
      (let more = part_more q qs in omega (arith, more)) here)
  cuts_run made first (_ ∷ h) rest since n closing es c all run = cuts_run made first h rest since n closing es c.1 all run

-- the ticks of these parts are made
made_more : (n m : ℕ) → nat_lt n m ≡ true → n + 1 ≤ m
made_more n m is = grind (arith, nat_tests)

pub parts_made : (made : ℕ) (first : Opening) (h : Journal) → Conducted first h → AllMade made h → ticks_together (pieces_in (board_parts first h)) ≤ made
parts_made made first [] c all = omega arith
parts_made made first (cut k ∷ h) c all =
    let given = given_sum first h c.1 in let more = part_more (part_of first k h) (board_parts first h) in let one = made_more (ticks_given h) made all.0 in omega (arith, given, more, one)
parts_made made first (_ ∷ h) c all = parts_made made first h c.1 all
