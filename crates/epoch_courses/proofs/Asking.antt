-- Epoch by epoch, the parts of a course are those that the planner was given.
use Rattle.std.proofs.Common.{◌≡◌, ℕ, ◌≤◌, Bool, true, false, not, cond, List, [], ◌∷◌, ◌++◌, map, reverse, drop, refl, sym, ap, ◌∙◌, subst, append_assoc, append-nil, arith}
use Rattle.flight.specs.Places.{origin}
use Rattle.planner_runs.specs.Runs.{fresh_plan}
use Rattle.run_rules.specs.declared.State.{State}
use Rattle.run_rules.specs.Work.{Outcome}
use Rattle.run_texts.specs.Courses.{Passed, Reset}
use Rattle.run_texts.specs.Courses.Passed.{a_line, a_broken, a_reset}
use Rattle.run_texts.specs.Parts.{Part, parts_of}
use Rattle.run_texts.specs.Parts.Ending.{by_reset, by_end}
use Rattle.step_line.specs.Logs.{NewestFirst}
use Rattle.board_rules.specs.Conduct.{Conducted, IsFinished}
use Rattle.board_rules.specs.Parts.{Part as CutPart}
use Rattle.board_rules.specs.Cuts.{part_outcomes, part_start, part_of}
use Rattle.board_rules.specs.Cuts.{parts_of as board_parts}
use Rattle.board_journal.specs.Openings.{Opening}
use Rattle.board_journal.specs.Steps.{Journal, known_of}
use Rattle.board_journal.specs.Steps.Step.{began, cut}
use Rattle.board_rules.proofs.Closing.{spent}
use Rattle.board_epochs.specs.Epochs.{Closed, Epochs, AreClosed, AreEpochs, IsEpoch, opening_behind, reset_of, ticks_made}
use Rattle.board_epochs.specs.Epochs.Epochs.{goes, resets}
use Rattle.board_epochs.specs.Resets.{MayReset}
use Rattle.epoch_courses.specs.Course.{made_at_halt, open_journal, is_unanswered, passed_by, passed_so_far, passed_at_reset, closed_course, course_of}
use Rattle.epoch_courses.specs.Drives.{Driven, AreDriven, is_pending, cut_parts, last_of, driven_by_cut, driven_since, drives_in, closed_drives, drives_of}
use Rattle.epoch_courses.proofs.Drives.{Runs, Pends, part, part_place, parts_reset, parts_end, parts_broken, parts_broken_end, driven_there, goes_there, taken_there, over_there, epoch_driven, broken_last, runs_since, runs_cut, uncut_made, others_made, pends_there}
use Rattle.epoch_courses.proofs.Halted.{known_made}
use Rattle.epoch_courses.proofs.Made.{AllMade, all_given_made}
use Rattle.epoch_courses.proofs.Uncut.{uncut_there}

-- ---- an epoch that a reset ends, or is to end

-- the last part of an epoch, as the planner has run it
abbrev last_there : ℕ → Opening → Journal → Driven
last_there made first h = last_of (is_pending made h) (board_parts first h) (driven_since first h)

-- What comes behind the lines since a cut, broken or not, is driven there.
record Lasts (over : Bool) (first : Opening) (h : Journal) (d : Driven) (rest : List Passed) (ds : List Driven) : Type 0 where
  answered : (os : List Outcome) → os ≡ part_outcomes h → AreDriven first.blocks over (part_place first h) (part_start h) (parts_of (map a_line os ++ rest)) (d ∷ ds)
  broken : (os : List Outcome) (o : Outcome) → os ++ o ∷ [] ≡ part_outcomes h → AreDriven first.blocks over (part_place first h) (part_start h) (parts_of (map a_line os ++ a_broken o ∷ rest)) (d ∷ ds)

-- all parts of an epoch, with more behind it
abbrev Behind : Bool → ℕ → Opening → Journal → List Passed → List Passed → List Driven → Type 0
Behind over made first h passed rest ds = AreDriven first.blocks over first.place fresh_plan (parts_of (passed ++ rest)) (map driven_by_cut (reverse (cut_parts made first h)) ++ last_there made first h ∷ ds)

-- what holds of an epoch whose cuts are all made, and of one whose last is not
with_pending : (made : ℕ) (first : Opening) (h : Journal) (over : Bool) (passed rest : List Passed) (ds : List Driven) (t : Bool) → is_pending made h ≡ t
    → AreDriven first.blocks over first.place fresh_plan (parts_of (passed ++ rest)) (map driven_by_cut (reverse (drop (cond t 1 0) (board_parts first h))) ++ last_of t (board_parts first h) (driven_since first h) ∷ ds)
    → Behind over made first h passed rest ds
with_pending made first h over passed rest ds t is all =
    subst (λ (b : Bool). AreDriven first.blocks over first.place fresh_plan (parts_of (passed ++ rest)) (map driven_by_cut (reverse (drop (cond b 1 0) (board_parts first h))) ++ last_of b (board_parts first h) (driven_since first h) ∷ ds)) (sym is) all

pending_driven : (made : ℕ) (first : Opening) (h : Journal) (over : Bool) (rest : List Passed) (ds : List Driven) (p : Pends made first h) → is_pending made h ≡ true
    → Lasts over first p.before (driven_by_cut (part_of first p.k p.before)) rest ds → Behind over made first h (passed_by false made first h) rest ds
pending_driven made first h over rest ds p is lasts =
    let q = part_of first p.k p.before in
    with_pending made first h over (passed_by false made first h) rest ds true is
    (subst (λ (qs : List CutPart). AreDriven first.blocks over first.place fresh_plan (parts_of (passed_by false made first h ++ rest)) (map driven_by_cut (reverse (drop 1 qs)) ++ last_of true qs (driven_since first h) ∷ ds)) (sym p.parts)
    (subst (λ (ps : List Passed). AreDriven first.blocks over first.place fresh_plan (parts_of (ps ++ rest)) (map driven_by_cut (reverse (board_parts first p.before)) ++ driven_by_cut q ∷ ds)) (sym p.passed)
    (epoch_driven over made first p.before rest (driven_by_cut q ∷ ds) p.conducted.1 p.all (lasts.answered (part_outcomes p.before) refl))))

-- an epoch is driven where its last part is
answered_driven : (made : ℕ) (first : Opening) (h : Journal) (over : Bool) (rest : List Passed) (ds : List Driven) → Conducted first h → known_of h ≤ made
    → ((before : Journal) (d : Driven) → Runs first.blocks before d → Lasts over first before d rest ds) → Behind over made first h (passed_by false made first h) rest ds
answered_driven made first h over rest ds c known lasts = by_pending (is_pending made h) refl
  where
    by_pending : (t : Bool) → is_pending made h ≡ t → Behind over made first h (passed_by false made first h) rest ds
    by_pending true is = let p = pends_there made first h c known is in pending_driven made first h over rest ds p is (lasts p.before (driven_by_cut (part_of first p.k p.before)) (runs_cut first p.before p.k p.conducted))
    by_pending false is = with_pending made first h over (passed_by false made first h) rest ds false is
        (epoch_driven over made first h rest (driven_since first h ∷ ds) c (others_made made first h c known is) ((lasts h (driven_since first h) (runs_since first h c)).answered (part_outcomes h) refl))

broken_driven : (made : ℕ) (first : Opening) (h : Journal) (over : Bool) (rest : List Passed) (ds : List Driven) → IsEpoch first h → MayReset first h → known_of h ≤ made → is_unanswered h ≡ true
    → ((before : Journal) (d : Driven) → Runs first.blocks before d → Lasts over first before d rest ds) → Behind over made first h (passed_by true made first h) rest ds
broken_driven made first h over rest ds is may known one lasts =
    let uncut = uncut_there first h is may one in
    let none = uncut_made made h uncut in
    let b = broken_last made first h is.conducted one uncut (others_made made first h is.conducted known none) in
    with_pending made first h over (passed_by true made first h) rest ds false none
    (b.driven over rest (driven_since first h ∷ ds) ((lasts h (driven_since first h) (runs_since first h is.conducted)).broken b.early b.o b.outcomes))

epoch_at_reset : (made : ℕ) (first : Opening) (h : Journal) (over : Bool) (rest : List Passed) (ds : List Driven) → IsEpoch first h → MayReset first h → known_of h ≤ made
    → ((before : Journal) (d : Driven) → Runs first.blocks before d → Lasts over first before d rest ds) → Behind over made first h (passed_at_reset made first h) rest ds
epoch_at_reset made first h over rest ds is may known lasts = by_one (is_unanswered h) refl
  where
    by_one : (t : Bool) → is_unanswered h ≡ t → Behind over made first h (passed_by (is_unanswered h) made first h) rest ds
    by_one true one = subst (λ (t : Bool). Behind over made first h (passed_by t made first h) rest ds) (sym one) (broken_driven made first h over rest ds is may known one lasts)
    by_one false all = subst (λ (t : Bool). Behind over made first h (passed_by t made first h) rest ds) (sym all) (answered_driven made first h over rest ds is.conducted known lasts)

-- ---- how its last part ends

-- by a reset
resets_last : (over : Bool) (first : Opening) (r : Reset) (rest : List Passed) (ds : List Driven) → AreDriven first.blocks over r.at fresh_plan (parts_of rest) ds → (h : Journal) (d : Driven) → Runs first.blocks h d → Lasts over first h d (a_reset r ∷ rest) ds
resets_last over first r rest ds is h d run = record {
  answered = λ os same. subst (λ (ps : List Part). AreDriven first.blocks over (part_place first h) (part_start h) ps (d ∷ ds)) (sym (parts_reset os r rest))
      (driven_there first.blocks over (part_place first h) h d (part os [] (by_reset r)) run (append-nil os ∙ same) (taken_there first.blocks h d r.number run), is);
  broken = λ os o same. subst (λ (ps : List Part). AreDriven first.blocks over (part_place first h) (part_start h) ps (d ∷ ds)) (sym (parts_broken os o r rest))
      (driven_there first.blocks over (part_place first h) h d (part os (o ∷ []) (by_reset r)) run same (taken_there first.blocks h d r.number run), is);
}

-- not yet
goes_last : (first : Opening) (h : Journal) (d : Driven) → Runs first.blocks h d → Lasts false first h d [] []
goes_last first h d run = record {
  answered = λ os same. subst (λ (ps : List Part). AreDriven first.blocks false (part_place first h) (part_start h) ps (d ∷ [])) (sym (parts_end os))
      (driven_there first.blocks false (part_place first h) h d (part os [] by_end) run (append-nil os ∙ same) (goes_there first.blocks h d run), tt);
  broken = λ os o same. subst (λ (ps : List Part). AreDriven first.blocks false (part_place first h) (part_start h) ps (d ∷ [])) (sym (parts_broken_end os o))
      (driven_there first.blocks false (part_place first h) h d (part os (o ∷ []) by_end) run same (goes_there first.blocks h d run), tt);
}

-- ---- closed epochs

closed_driven : (over : Bool) (blocks : ℕ) (state : State) (es : NewestFirst Closed) (rest : List Passed) (ds : List Driven) → AreClosed blocks state es
    → AreDriven (opening_behind blocks state es).blocks over (opening_behind blocks state es).place fresh_plan (parts_of rest) ds → AreDriven blocks over origin fresh_plan (parts_of (closed_course blocks state es ++ rest)) (closed_drives blocks state es ++ ds)
closed_driven over blocks state [] rest ds c is = is
closed_driven over blocks state (e ∷ es) rest ds c is =
    let first = opening_behind blocks state es in
    let h = e.journal in
    let made = made_at_halt (ticks_made es) e.work in
    let r = reset_of (ticks_made es) first h e.work in
    let passed = passed_at_reset made first h in
    let cuts = map driven_by_cut (reverse (cut_parts made first h)) in
    let last = last_there made first h in
    let here = epoch_at_reset made first h over (a_reset r ∷ rest) ds c.0.resetting.epoch c.0.resetting.may (known_made blocks state e es c) (resets_last over first r rest ds is) in
    let all = closed_driven over blocks state es (passed ++ a_reset r ∷ rest) (cuts ++ last ∷ ds) c.1 here in
    subst (λ (ps : List Passed). AreDriven blocks over origin fresh_plan (parts_of ps) (closed_drives blocks state (e ∷ es) ++ ds))
    (sym (append_assoc (closed_course blocks state es) (passed ++ a_reset r ∷ []) rest ∙ ap (λ (ps : List Passed). closed_course blocks state es ++ ps) (append_assoc passed (a_reset r ∷ []) rest)))
    (subst (λ (xs : List Driven). AreDriven blocks over origin fresh_plan (parts_of (closed_course blocks state es ++ (passed ++ a_reset r ∷ rest))) xs)
    (sym (append_assoc (closed_drives blocks state es) (cuts ++ last ∷ []) ds ∙ ap (λ (xs : List Driven). closed_drives blocks state es ++ xs) (append_assoc cuts (last ∷ []) ds))) all)

-- ---- all of it

pub epochs_driven : (blocks : ℕ) (state : State) (made : ℕ) (es : Epochs) → AreEpochs blocks state es → known_of (open_journal es) ≤ made → AreDriven blocks false origin fresh_plan (parts_of (course_of blocks state made es)) (drives_of blocks state made es)
epochs_driven blocks state made (goes es h) c known =
    let first = opening_behind blocks state es in
    let here = answered_driven made first h false [] [] c.1.conducted known (goes_last first) in
    closed_driven false blocks state es (passed_so_far made first h) (drives_in made first h) c.0
    (subst (λ (ps : List Passed). AreDriven first.blocks false first.place fresh_plan (parts_of ps) (drives_in made first h)) (append-nil (passed_so_far made first h)) here)
epochs_driven blocks state made (resets es h w) c known =
    let first = opening_behind blocks state es in
    let here = epoch_at_reset made first h false [] [] c.1.epoch c.1.may known (goes_last first) in
    closed_driven false blocks state es (passed_at_reset made first h) (drives_in made first h) c.0
    (subst (λ (ps : List Passed). AreDriven first.blocks false first.place fresh_plan (parts_of ps) (drives_in made first h)) (append-nil (passed_at_reset made first h)) here)

all_unpending : (made : ℕ) (h : Journal) → AllMade made h → is_pending made h ≡ false
all_unpending made [] all = refl
all_unpending made (began o ∷ h) all = refl
all_unpending made (cut k ∷ h) all = ap not all.0
all_unpending made (_ ∷ h) all = all_unpending made h all

pub finished_driven : (blocks : ℕ) (state : State) (made : ℕ) (es : NewestFirst Closed) (h : Journal) → AreEpochs blocks state (goes es h) → IsFinished (opening_behind blocks state es) h → known_of h ≤ made
    → AreDriven blocks true origin fresh_plan (parts_of (course_of blocks state made (goes es h))) (drives_of blocks state made (goes es h))
finished_driven blocks state made es h c finished known =
    let first = opening_behind blocks state es in
    let conducted = c.1.conducted in
    let d = driven_since first h in
    let p = part (part_outcomes h) [] by_end in
    let done = (spent first h conducted finished).done in
    let all = all_given_made made h (omega (arith, done, known)) in
    let last : AreDriven first.blocks true (part_place first h) (part_start h) (parts_of (map a_line (part_outcomes h) ++ [])) (d ∷ []) =
    subst (λ (ps : List Part). AreDriven first.blocks true (part_place first h) (part_start h) ps (d ∷ [])) (sym (parts_end (part_outcomes h)))
    (driven_there first.blocks true (part_place first h) h d p (runs_since first h conducted) (append-nil (part_outcomes h)) (over_there first h p conducted finished refl (append-nil (part_outcomes h))), tt) in
    let here = with_pending made first h true (passed_by false made first h) [] [] false (all_unpending made h all) (epoch_driven true made first h [] (d ∷ []) conducted all last) in
    closed_driven true blocks state es (passed_so_far made first h) (drives_in made first h) c.0
    (subst (λ (ps : List Passed). AreDriven first.blocks true first.place fresh_plan (parts_of ps) (drives_in made first h)) (append-nil (passed_so_far made first h)) here)
