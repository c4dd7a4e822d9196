-- Epoch by epoch, the pieces of a board are of the parts of its course.
use Rattle.std.proofs.Common.{◌≡◌, ℕ, ◌+◌, ◌-◌, ◌≤◌, Bool, true, false, List, [], ◌∷◌, ◌++◌, map, refl, sym, ap, ◌∙◌, subst, append_assoc, append-nil, arith}
use Rattle.std.specs.List.{list_any}
use Rattle.flight.specs.Places.{origin, machine_from}
use Rattle.run_rules.specs.declared.State.{State}
use Rattle.run_rules.specs.Outcomes.{either}
use Rattle.run_rules.specs.Reports.{raises_alarm}
use Rattle.run_rules.specs.Told.{asked_in}
use Rattle.run_rules.specs.Work.{Outcome}
use Rattle.run_texts.specs.Courses.{Passed, Reset}
use Rattle.run_texts.specs.Courses.Passed.{a_line, a_broken, a_reset}
use Rattle.run_texts.specs.Parts.{Part, parts_of, lines_counted}
use Rattle.run_texts.specs.Parts.Ending.{by_reset, by_end}
use Rattle.run_texts.specs.Recorded.{settled_ticks}
use Rattle.step_line.specs.Asking.{Asked}
use Rattle.step_line.specs.Finishing.{ticks_together}
use Rattle.step_line.specs.Logs.{NewestFirst}
use Rattle.step_line.specs.declared.Mark.TheVariants as marks
use Rattle.step_line.specs.declared.Piece.{Piece}
use Rattle.step_line.specs.declared.Piece.TheVariants as pieces
use Rattle.step_line.proofs.Finished.{together_both}
use Rattle.units.specs.declared.Steps3.{Steps3}
use Rattle.planner_runs.specs.Runs.{all_asked}
use Rattle.board_rules.specs.Conduct.{Conducted, IsFinished}
use Rattle.board_rules.specs.Cuts.{part_outcomes, part_given}
use Rattle.board_rules.specs.Cuts.{parts_of as board_parts}
use Rattle.board_journal.specs.Openings.{Opening}
use Rattle.board_rules.specs.Parts.{Part as CutPart, IsAlarmedPart, pieces_in}
use Rattle.board_journal.specs.Steps.{Journal, published_of, planned_of, hand_of, known_of}
use Rattle.board_journal.specs.Steps.Step.{at_port, began, cut}
use Rattle.board_rules.proofs.Closing.{spent}
use Rattle.board_rules.proofs.Jogging.{cancel_is_jog}
use Rattle.board_rules.proofs.Numbers.{pieces_are}
use Rattle.board_epochs.specs.Epochs.{Closed, AreClosed, AreEpochs, IsEpoch, IsResetting, closed_log, log_behind, opening_behind, reset_of, ticks_made}
use Rattle.board_epochs.specs.Epochs.Epochs.{goes, resets}
use Rattle.board_epochs.specs.Work.{Work, stage_of}
use Rattle.board_epochs.specs.Resets.{MayReset}
use Rattle.board_epochs.proofs.Prompting.{calm}
use Rattle.epoch_courses.specs.Course.{IsMadeAtHalt, is_marked, with_reset, is_unanswered, passed_by, passed_so_far, passed_at_reset, made_at_halt, closed_course, course_of}
use Rattle.epoch_courses.specs.Drives.{IsOver, is_pending, driven_since}
use Rattle.epoch_courses.specs.Drives.{IsRunOut as AllIsRun}
use Rattle.epoch_courses.proofs.Broken.{IsUncut, was_unanswered}
use Rattle.epoch_courses.proofs.Drives.{Pends, part, part_place, parts_reset, parts_end, parts_broken, over_there, others_made, pends_there, uncut_made, runs_since}
use Rattle.epoch_courses.proofs.Halted.{made_there, marked_there}
use Rattle.epoch_courses.proofs.Made.{AllMade, all_given_made}
use Rattle.epoch_courses.proofs.Uncut.{uncut_there}
use Rattle.epoch_records.specs.Epochs.{Epoch}
use Rattle.epoch_records.specs.Runs.{AreRun, IsBrokenOff, IsRunFor, IsRunOut, IsCarriedOut}
use Rattle.epoch_runs.specs.Epochs.{reset_epoch, last_epoch, closed_epochs, epochs_of}
use Rattle.epoch_runs.proofs.Ends.{out_there, out_pending, ticks_behind, since_broken, pending_broken}
use Rattle.epoch_runs.proofs.Parts.{SaysByParts, all_by_parts, parts_some, cuts_run, epoch_with, parts_made, run_for, same_epoch}
use Rattle.epoch_runs.proofs.Pieces.{behind_parts}
use Rattle.epoch_runs.proofs.Settled.{all_settled, broken_settled, jog_settled}

-- ---- an epoch that a reset ends

abbrev mark_of : Reset → Piece
mark_of r = pieces.Mark (marks.Reset r.number)

-- a last line is broken, behind all cuts
pub record BrokenSo (made : ℕ) (first : Opening) (h : Journal) : Type 0 where
  pub before : Journal
  pub o : Outcome
  pub conducted : Conducted first (began o ∷ before)
  pub all : AllMade made before
  pub passed : passed_by true made first h ≡ passed_by false made first before ++ a_broken o ∷ []
  pub parts : board_parts first h ≡ board_parts first before
  pub place : part_place first h ≡ part_place first before
  pub outcomes : part_outcomes before ++ o ∷ [] ≡ part_outcomes h

pub broken_so : (made : ℕ) (first : Opening) (h : Journal) → Conducted first h → is_unanswered h ≡ true → IsUncut h → AllMade made h → BrokenSo made first h
broken_so made first [] c one uncut all = absurd uncut
broken_so made first (began o ∷ h) c one uncut all = record { before = h; o = o; conducted = c; all = all; passed = refl; parts = refl; place = refl; outcomes = refl }
broken_so made first (cut k ∷ h) c one uncut all = absurd uncut
broken_so made first (at_port e ∷ h) c one uncut all =
    let x = broken_so made first h c.1 (was_unanswered e (is_unanswered h) one) uncut all in
    record { before = x.before; o = x.o; conducted = x.conducted; all = x.all; passed = x.passed; parts = x.parts; place = x.place; outcomes = x.outcomes }
broken_so made first (_ ∷ h) c one uncut all =
    let x = broken_so made first h c.1 one uncut all in
    record { before = x.before; o = x.o; conducted = x.conducted; all = x.all; passed = x.passed; parts = x.parts; place = x.place; outcomes = x.outcomes }

module _ (R : List Part → Steps3 → List Epoch → Type 0) (cons : SaysByParts R) where
  -- the course up to the reset, of the pieces that were published
  abbrev EpochRuns : ℕ → Opening → Journal → Reset → List Passed → List Passed → List Epoch → Type 0
  EpochRuns made first h r passed rest es = R (parts_of (passed ++ a_reset r ∷ rest)) first.place (epoch_with (published_of h) made (mark_of r) ∷ es)

  -- with the pieces behind the cuts that are made
  from_cuts : (made : ℕ) (first : Opening) (h b : Journal) (r : Reset) (passed rest : List Passed) (es : List Epoch) (since : List Piece) → published_of h ≡ pieces_in (board_parts first b) ++ since → ticks_together (pieces_in (board_parts first b)) ≤ made
      → R (parts_of (passed ++ a_reset r ∷ rest)) first.place (epoch_with (pieces_in (board_parts first b) ++ since) (ticks_together (pieces_in (board_parts first b)) + (made - ticks_together (pieces_in (board_parts first b)))) (mark_of r) ∷ es)
      → EpochRuns made first h r passed rest es
  from_cuts made first h b r passed rest es since is few run =
      same_epoch R cons (parts_of (passed ++ a_reset r ∷ rest)) first.place (pieces_in (board_parts first b) ++ since) (published_of h) _ made (mark_of r) es (sym is) (sym (ticks_behind (board_parts first b) made few)) run

  -- all lines are answered, and all cuts made
  answered_runs : (made : ℕ) (first : Opening) (h : Journal) (r : Reset) (rest : List Passed) (es : List Epoch) → IsEpoch first h → MayReset first h → IsMadeAtHalt h made → r.at ≡ machine_from first.place (published_of h) made
      → is_unanswered h ≡ false → AllMade made h → R (parts_of rest) r.at es → EpochRuns made first h r (passed_by false made first h) rest es
  answered_runs made first h r rest es is may there at all cuts run =
      let c = is.conducted in
      let qs = board_parts first h in
      let os = part_outcomes h in
      let p : Part = part os [] (by_reset r) in
      let few = parts_made made first h c cuts in
      let n : ℕ = made - ticks_together (pieces_in qs) in
      let behind = behind_parts qs (published_of h) (hand_of h) (part_given h) (out_there first h is may) (let pub_few = there.published in omega (arith, few, pub_few)) in
      let broken = since_broken made first h p r.at is may there cuts (append-nil os) at (all_settled made n first h os c (calm first h is may) there.known (ticks_behind qs made few) all refl) behind in
      from_cuts made first h h r (passed_by false made first h) rest es behind.since behind.is few
      (cuts_run R cons made first h (a_reset r ∷ rest) behind.since n (mark_of r) es c cuts
      (subst (λ (ps : List Part). R ps (part_place first h) (epoch_with behind.since n (mark_of r) ∷ es)) (sym (parts_reset os r rest)) (cons p (parts_of rest) _ _ (parts_some rest) (refl, broken, run))))

  -- the last cut is not made
  pending_runs : (made : ℕ) (first : Opening) (h : Journal) (r : Reset) (rest : List Passed) (es : List Epoch) → IsEpoch first h → MayReset first h → IsMadeAtHalt h made → r.at ≡ machine_from first.place (published_of h) made
      → (x : Pends made first h) → known_of x.before ≤ made → R (parts_of rest) r.at es → EpochRuns made first h r (passed_by false made first h) rest es
  pending_runs made first h r rest es is may there at x known run =
      let b = x.before in
      let c = x.conducted.1 in
      let qs = board_parts first b in
      let os = part_outcomes b in
      let p : Part = part os [] (by_reset r) in
      let few = parts_made made first b c x.all in
      let n : ℕ = made - ticks_together (pieces_in qs) in
      let behind = behind_parts qs (published_of h) (hand_of h) (part_given b ++ pieces.Mark (marks.Cut x.k) ∷ part_given h) (out_pending made first h x is may) (let pub_few = there.published in omega (arith, few, pub_few)) in
      let jogs = cancel_is_jog first b c x.conducted.0.cancelled in
      let broken = pending_broken made first h x p r.at x.unmade (append-nil os) at (jog_settled made n first b os c x.conducted.0.calm known (ticks_behind qs made few) jogs refl) behind in
      subst (λ (ps : List Passed). EpochRuns made first h r ps rest es) (sym x.passed)
      (from_cuts made first h b r (passed_by false made first b) rest es behind.since behind.is few
      (cuts_run R cons made first b (a_reset r ∷ rest) behind.since n (mark_of r) es c x.all
      (subst (λ (ps : List Part). R ps (part_place first b) (epoch_with behind.since n (mark_of r) ∷ es)) (sym (parts_reset os r rest)) (cons p (parts_of rest) _ _ (parts_some rest) (refl, broken, run)))))

  broken_runs : (made : ℕ) (first : Opening) (h : Journal) (r : Reset) (rest : List Passed) (es : List Epoch) → IsEpoch first h → MayReset first h → IsMadeAtHalt h made → r.at ≡ machine_from first.place (published_of h) made
      → is_unanswered h ≡ true → AllMade made h → BrokenSo made first h → R (parts_of rest) r.at es → EpochRuns made first h r (passed_by true made first h) rest es
  broken_runs made first h r rest es is may there at one cuts x run =
      let c = is.conducted in
      let qs = board_parts first h in
      let b = x.before in
      let os = part_outcomes b in
      let p : Part = part os (x.o ∷ []) (by_reset r) in
      let few = parts_made made first h c cuts in
      let n : ℕ = made - ticks_together (pieces_in qs) in
      let behind = behind_parts qs (published_of h) (hand_of h) (part_given h) (out_there first h is may) (let pub_few = there.published in omega (arith, few, pub_few)) in
      let broken = since_broken made first h p r.at is may there cuts x.outcomes at (broken_settled made n first h os x.o c (calm first h is may) there.known (ticks_behind qs made few) one x.outcomes) behind in
      let here : R (parts_of (map a_line os ++ a_broken x.o ∷ a_reset r ∷ rest)) (part_place first b) (epoch_with behind.since n (mark_of r) ∷ es) =
      subst (λ (ps : List Part). R ps (part_place first b) (epoch_with behind.since n (mark_of r) ∷ es)) (sym (parts_broken os x.o r rest))
      (cons p (parts_of rest) _ _ (parts_some rest) (refl, subst (λ (place : Steps3). IsBrokenOff place p r.at behind.since n) x.place broken, run)) in
      let whole = cuts_run R cons made first b (a_broken x.o ∷ a_reset r ∷ rest) behind.since n (mark_of r) es x.conducted.1 x.all here in
      from_cuts made first h h r (passed_by true made first h) rest es behind.since behind.is few
      (subst (λ (ps : List Passed). R (parts_of (ps ++ a_reset r ∷ rest)) first.place (epoch_with (pieces_in qs ++ behind.since) (ticks_together (pieces_in qs) + n) (mark_of r) ∷ es)) (sym x.passed)
      (subst (λ (ps : List Passed). R (parts_of ps) first.place (epoch_with (pieces_in qs ++ behind.since) (ticks_together (pieces_in qs) + n) (mark_of r) ∷ es)) (sym (append_assoc (passed_by false made first b) (a_broken x.o ∷ []) (a_reset r ∷ rest)))
      (subst (λ (xs : List CutPart). R (parts_of (passed_by false made first b ++ a_broken x.o ∷ a_reset r ∷ rest)) first.place (epoch_with (pieces_in xs ++ behind.since) (ticks_together (pieces_in xs) + n) (mark_of r) ∷ es)) (sym x.parts) whole)))

  epoch_runs : (made : ℕ) (first : Opening) (h : Journal) (r : Reset) (rest : List Passed) (es : List Epoch) → IsEpoch first h → MayReset first h → IsMadeAtHalt h made → r.at ≡ machine_from first.place (published_of h) made
      → R (parts_of rest) r.at es → EpochRuns made first h r (passed_at_reset made first h) rest es
  epoch_runs made first h r rest es is may there at run = by_one (is_unanswered h) refl
    where
      by_pending : is_unanswered h ≡ false → (t : Bool) → is_pending made h ≡ t → EpochRuns made first h r (passed_by false made first h) rest es
      by_pending all true pends =
          let x = pends_there made first h is.conducted there.known pends in pending_runs made first h r rest es is may there at x x.known run
      by_pending all false none = answered_runs made first h r rest es is may there at all (others_made made first h is.conducted there.known none) run

      by_one : (t : Bool) → is_unanswered h ≡ t → EpochRuns made first h r (passed_by (is_unanswered h) made first h) rest es
      by_one true one =
          let uncut = uncut_there first h is may one in
          let cuts = others_made made first h is.conducted there.known (uncut_made made h uncut) in
          subst (λ (t : Bool). EpochRuns made first h r (passed_by t made first h) rest es) (sym one) (broken_runs made first h r rest es is may there at one cuts (broken_so made first h is.conducted one uncut cuts) run)
      by_one false all = subst (λ (t : Bool). EpochRuns made first h r (passed_by t made first h) rest es) (sym all) (by_pending all (is_pending made h) refl)

  -- ---- closed epochs

  abbrev ClosedRuns : (blocks : ℕ) → State → NewestFirst Closed → List Passed → List Epoch → Type 0
  ClosedRuns blocks state es rest epochs = R (parts_of (closed_course blocks state es ++ rest)) origin (closed_epochs blocks state es ++ epochs)

  -- one more, behind those that are closed
  one_more : (blocks : ℕ) (state : State) (es : NewestFirst Closed) (h : Journal) (w : Work) (rest : List Passed) (epochs : List Epoch)
      → ClosedRuns blocks state es (passed_at_reset (made_at_halt (ticks_made es) w) (opening_behind blocks state es) h ++ a_reset (reset_of (ticks_made es) (opening_behind blocks state es) h w) ∷ rest) (reset_epoch (ticks_made es) (opening_behind blocks state es) h w ∷ epochs)
      → ClosedRuns blocks state (with_reset es h w) rest epochs
  one_more blocks state es h w rest epochs all =
      let first = opening_behind blocks state es in
      let r = reset_of (ticks_made es) first h w in
      let passed = passed_at_reset (made_at_halt (ticks_made es) w) first h in
      subst (λ (ps : List Passed). R (parts_of ps) origin (closed_epochs blocks state (with_reset es h w) ++ epochs))
      (sym (append_assoc (closed_course blocks state es) (passed ++ a_reset r ∷ []) rest ∙ ap (λ (ps : List Passed). closed_course blocks state es ++ ps) (append_assoc passed (a_reset r ∷ []) rest)))
      (subst (λ (xs : List Epoch). R (parts_of (closed_course blocks state es ++ (passed ++ a_reset r ∷ rest))) origin xs)
      (sym (append_assoc (closed_epochs blocks state es) (reset_epoch (ticks_made es) first h w ∷ []) epochs)) all)

  -- one whose reset is being worked
  one_run : (blocks : ℕ) (state : State) (es : NewestFirst Closed) (h : Journal) (w : Work) (rest : List Passed) (epochs : List Epoch) → IsResetting (opening_behind blocks state es) (closed_log es) h w → IsMadeAtHalt h (made_at_halt (ticks_made es) w)
      → R (parts_of rest) (opening_behind blocks state (with_reset es h w)).place epochs → EpochRuns (made_at_halt (ticks_made es) w) (opening_behind blocks state es) h (reset_of (ticks_made es) (opening_behind blocks state es) h w) (passed_at_reset (made_at_halt (ticks_made es) w) (opening_behind blocks state es) h) rest epochs
  one_run blocks state es h w rest epochs is there run =
      let first = opening_behind blocks state es in epoch_runs (made_at_halt (ticks_made es) w) first h (reset_of (ticks_made es) first h w) rest epochs is.epoch is.may there refl run

  pub closed_run : (blocks : ℕ) (state : State) (es : NewestFirst Closed) (rest : List Passed) (epochs : List Epoch) → AreClosed blocks state es → R (parts_of rest) (opening_behind blocks state es).place epochs → ClosedRuns blocks state es rest epochs
  closed_run blocks state [] rest epochs c run = run
  closed_run blocks state (e ∷ es) rest epochs c run =
      let first = opening_behind blocks state es in
      let made = made_at_halt (ticks_made es) e.work in
      let here = one_run blocks state es e.journal e.work rest epochs c.0.resetting (made_there blocks state e es c) run in
      one_more blocks state es e.journal e.work rest epochs
      (closed_run blocks state es (passed_at_reset made first e.journal ++ a_reset (reset_of (ticks_made es) first e.journal e.work) ∷ rest) (reset_epoch (ticks_made es) first e.journal e.work ∷ epochs) c.1 here)

  -- and one whose reset's mark is published
  pub marked_run : (blocks : ℕ) (state : State) (es : NewestFirst Closed) (h : Journal) (w : Work) (rest : List Passed) (epochs : List Epoch) → AreEpochs blocks state (resets es h w) → is_marked (stage_of (log_behind (closed_log es) h) w) ≡ true
      → R (parts_of rest) (opening_behind blocks state (with_reset es h w)).place epochs → ClosedRuns blocks state (with_reset es h w) rest epochs
  marked_run blocks state es h w rest epochs c marked run =
      let first = opening_behind blocks state es in
      let made = made_at_halt (ticks_made es) w in
      let here = one_run blocks state es h w rest epochs c.1 (marked_there blocks state es h w c.0 c.1 marked).made run in
      one_more blocks state es h w rest epochs
      (closed_run blocks state es (passed_at_reset made first h ++ a_reset (reset_of (ticks_made es) first h w) ∷ rest) (reset_epoch (ticks_made es) first h w ∷ epochs) c.0 here)

-- ---- the last epoch

run_out : (first : Opening) (h : Journal) (p : Part) → Conducted first h → lines_counted p ≡ part_outcomes h → p.lines ≡ part_outcomes h → IsOver first.blocks p (driven_since first h) → IsRunOut p (part_given h)
run_out first h p c counted lines over = by_alarm (list_any raises_alarm p.lines) refl over
  where
    run : IsRunFor (lines_counted p) (part_given h) (driven_since first h).plan
    run = run_for first h (driven_since first h) (lines_counted p) c (runs_since first h c) counted

    by_alarm : (t : Bool) → list_any raises_alarm p.lines ≡ t → either t (IsAlarmedPart first.blocks p.lines (driven_since first h).start (driven_since first h).actions (part_given h) (driven_since first h).plan) (AllIsRun p (driven_since first h)) → IsRunOut p (part_given h)
    by_alarm true is alarmed = record {
      last = (driven_since first h).plan;
      run = run;
      stops = alarmed.stops;
      all = subst (λ (t : Bool). either t (settled_ticks p.lines ≤ ticks_together (part_given h)) (IsCarriedOut (lines_counted p) run.actions (driven_since first h).plan)) (sym is) alarmed.settled;
    }
    by_alarm false is whole = record {
      last = (driven_since first h).plan;
      run = run;
      stops = whole.rests.speed;
      all = subst (λ (t : Bool). either t (settled_ticks p.lines ≤ ticks_together (part_given h)) (IsCarriedOut (lines_counted p) run.actions (driven_since first h).plan)) (sym is) (record {
        asks = ap asked_in counted ∙ (runs_since first h c).asks ∙ ap (λ (left : List Asked). all_asked (driven_since first h).actions ++ left) whole.asked ∙ append-nil (all_asked (driven_since first h).actions);
        rests = whole.rests.blocks;
      });
    }

last_run : (made : ℕ) (first : Opening) (h : Journal) → Conducted first h → IsFinished first h → known_of h ≤ made → AreRun (parts_of (passed_so_far made first h)) first.place (last_epoch h ∷ [])
last_run made first h c over known =
    let qs = board_parts first h in
    let os = part_outcomes h in
    let p : Part = part os [] by_end in
    let done = (spent first h c over).done in
    let cuts = all_given_made made h (omega (arith, done, known)) in
    let out = run_out first h p c (append-nil os) refl (over_there first h p c over refl (append-nil os)) in
    let n = ticks_together (part_given h) in
    let here = cuts_run AreRun all_by_parts made first h [] (part_given h) n pieces.End [] c cuts
    (subst (λ (ps : List Part). AreRun ps (part_place first h) (epoch_with (part_given h) n pieces.End ∷ [])) (sym (parts_end os)) (refl, out, refl)) in
    let all = pieces_are first h c in
    let count : ticks_together (pieces_in qs) + n ≡ ticks_together (planned_of h) = sym (ap ticks_together all ∙ together_both (pieces_in qs) (part_given h)) in
    subst (λ (ps : List Passed). AreRun (parts_of ps) first.place (last_epoch h ∷ [])) (append-nil (passed_so_far made first h))
    (same_epoch AreRun all_by_parts (parts_of (passed_by false made first h ++ [])) first.place (pieces_in qs ++ part_given h) (planned_of h) (ticks_together (pieces_in qs) + n) (ticks_together (planned_of h)) pieces.End [] (sym all) count here)

-- ---- all of it

pub epochs_run : (blocks : ℕ) (state : State) (made : ℕ) (es : NewestFirst Closed) (h : Journal) → AreEpochs blocks state (goes es h) → IsFinished (opening_behind blocks state es) h → known_of h ≤ made
    → AreRun (parts_of (course_of blocks state made (goes es h))) origin (epochs_of blocks state es h)
epochs_run blocks state made es h c over known =
    let first = opening_behind blocks state es in
    closed_run AreRun all_by_parts blocks state es (passed_so_far made first h) (last_epoch h ∷ []) c.0 (last_run made first h c.1.conducted over known)
