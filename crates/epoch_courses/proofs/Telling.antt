-- What an epoch answers, reports left out, is what greets and what its course tells.
use Rattle.std.proofs.Common.{◌≡◌, ◌⊎◌, inl, inr, ℕ, Bool, true, false, cond, List, [], ◌∷◌, ◌++◌, drop, refl, sym, ap, ◌∙◌, subst, append_assoc, append-nil}
use Rattle.std.proofs.lemmas.Grind.{flat_map-append}
use Rattle.std.proofs.lemmas.List.{append_cancel_right}
use Rattle.std.specs.List.{flat_map}
use Rattle.flight.specs.Places.{end_from}
use Rattle.planner_runs.specs.declared.Action.{Action}
use Rattle.planner_runs.specs.declared.Action.TheVariants.{Add, Mark, Rest}
use Rattle.run_rules.specs.Work.{Task, Outcome, tells, told_by}
use Rattle.run_rules.specs.Work.Task.{ask, pause, normal, finish, halt}
use Rattle.run_texts.specs.Courses.{Passed}
use Rattle.run_texts.specs.Courses.Passed.{a_line, a_broken, a_cut}
use Rattle.run_texts.specs.Told.{told_of, told_in}
use Rattle.status_report.specs.Answering.{without_reports}
use Rattle.status_report.specs.declared.Reply.{Reply}
use Rattle.step_line.specs.Asking.Asked.{a_move, a_mark, a_rest}
use Rattle.units.specs.declared.Steps3.{Steps3}
use Rattle.board_rules.specs.Conduct.{Conducted, MayDo}
use Rattle.board_journal.specs.Openings.{Opening}
use Rattle.board_journal.specs.Ports.PortStep.{answered}
use Rattle.board_journal.specs.Steps.{Step, Journal, answered_of, outcomes_of, left_of, left_by, given_of, closed_tells}
use Rattle.board_journal.specs.Steps.Step.{at_port, began, did, made_end, evened, paused, became, cut, halted, closing, turned}
use Rattle.board_rules.proofs.Dropping.{tells_kept}
use Rattle.board_rules.proofs.Keeping.{told_is}
use Rattle.board_rules.proofs.Phases.{Ends}
use Rattle.board_rules.proofs.Tasks.{none_closed}
use Rattle.board_epochs.specs.Epochs.{IsEpoch}
use Rattle.board_epochs.specs.Resets.{MayReset}
use Rattle.board_epochs.proofs.Prompting.{calm, going}
use Rattle.epoch_courses.specs.Course.{is_made, is_unanswered, passed_by, passed_at_reset}
use Rattle.epoch_courses.proofs.Answered.{BeginsNone, alone_on, only_told, ends_there}
use Rattle.epoch_courses.proofs.Broken.{was_unanswered}
use Rattle.epoch_courses.proofs.Tells.{tells_alone, tells_last, last_tail, last_kept, none_left, begun_last}

-- ---- what the lines tell

abbrev all_told : List Outcome → List Reply
all_told outcomes = flat_map (λ (o : Outcome). tells o.work) outcomes

told_on : (ps qs : List Passed) → told_in (ps ++ qs) ≡ told_in ps ++ told_in qs
told_on ps qs = flat_map-append told_of ps qs

-- a cut tells nothing
pub cut_tells : (t : Bool) (k : ℕ) (at : Steps3) → told_in (cond t (a_cut k at ∷ []) []) ≡ []
cut_tells true k at = refl
cut_tells false k at = refl

pub told_lines : (made : ℕ) (first : Opening) (h : Journal) → told_in (passed_by false made first h) ≡ all_told (outcomes_of h)
told_lines made first [] = refl
told_lines made first (began o ∷ h) =
    told_on (passed_by false made first h) (a_line o ∷ []) ∙ ap (λ (rs : List Reply). rs ++ (tells o.work ++ [])) (told_lines made first h) ∙ sym (flat_map-append (λ (x : Outcome). tells x.work) (outcomes_of h) (o ∷ []))
told_lines made first (cut k ∷ h) = told_on (passed_by false made first h) (cond (is_made made h) (a_cut k (end_from first.place (given_of h)) ∷ []) []) ∙ ap (λ (rs : List Reply). told_in (passed_by false made first h) ++ rs) (cut_tells (is_made made h) k (end_from first.place (given_of h))) ∙ append-nil (told_in (passed_by false made first h)) ∙ told_lines made first h
told_lines made first (_ ∷ h) = told_lines made first h

-- what there was to do of the line begun last
abbrev begun_work : Journal → List Task
begun_work [] = []
begun_work (began o ∷ h) = o.work
begun_work (_ ∷ h) = begun_work h

told_broken : (made : ℕ) (first : Opening) (h : Journal) → is_unanswered h ≡ true → told_in (passed_by true made first h) ++ tells (begun_work h) ≡ all_told (outcomes_of h)
told_broken made first [] one = absurd cc
told_broken made first (began o ∷ h) one =
    ap (λ (rs : List Reply). rs ++ tells o.work) (told_on (passed_by false made first h) (a_broken o ∷ []) ∙ append-nil (told_in (passed_by false made first h)) ∙ told_lines made first h)
    ∙ ap (λ (rs : List Reply). all_told (outcomes_of h) ++ rs) (sym (append-nil (tells o.work))) ∙ sym (flat_map-append (λ (x : Outcome). tells x.work) (outcomes_of h) (o ∷ []))
told_broken made first (cut k ∷ h) one =
    ap (λ (rs : List Reply). rs ++ tells (begun_work h)) (told_on (passed_by true made first h) (cond (is_made made h) (a_cut k (end_from first.place (given_of h)) ∷ []) []) ∙ ap (λ (rs : List Reply). told_in (passed_by true made first h) ++ rs) (cut_tells (is_made made h) k (end_from first.place (given_of h))) ∙ append-nil (told_in (passed_by true made first h))) ∙ told_broken made first h one
told_broken made first (at_port e ∷ h) one = told_broken made first h (was_unanswered e (is_unanswered h) one)
told_broken made first (_ ∷ h) one = told_broken made first h one

-- ---- what is left of a line that is not answered

-- it has told nothing yet, or nothing but replies is left
abbrev UntoldOrAlone : Opening → Journal → Type 0
UntoldOrAlone first h = ((tells (left_of first h) ≡ tells (begun_work h)) × (tells_last (left_of first h) ≡ true)) ⊎ (tells_alone (left_of first h) ≡ true)

-- a task is done that tells nothing
popped : (ts : List Task) (t : Task) → ts ≡ t ∷ drop 1 ts → told_by t ≡ [] → tells (drop 1 ts) ≡ tells ts
popped ts t next none = sym (ap tells next ∙ ap (λ (rs : List Reply). rs ++ tells (drop 1 ts)) none)

untold_did : (first : Opening) (h : Journal) (a : Action) → MayDo first a h → tells_last (left_of first h) ≡ true → (tells (left_by a (left_of first h)) ≡ tells (left_of first h)) × (tells_last (left_by a (left_of first h)) ≡ true)
untold_did first h (Add m) may last = (popped (left_of first h) (ask (a_move m)) may refl, last_tail (left_of first h) last)
untold_did first h (Mark m) may last = (popped (left_of first h) (ask (a_mark m)) may.next refl, last_tail (left_of first h) last)
untold_did first h Rest may last = (popped (left_of first h) (ask a_rest) may.next refl, last_tail (left_of first h) last)
untold_did first h _ may last = (refl, last)

untold_pop : (first : Opening) (s : Step) (h : Journal) (t : Task) → left_of first h ≡ t ∷ drop 1 (left_of first h) → told_by t ≡ [] → left_of first (s ∷ h) ≡ drop 1 (left_of first h) → begun_work (s ∷ h) ≡ begun_work h
    → tells (left_of first h) ≡ tells (begun_work h) → tells_last (left_of first h) ≡ true → UntoldOrAlone first (s ∷ h)
untold_pop first s h t next none left same told last =
    inl (ap tells left ∙ popped (left_of first h) t next none ∙ told ∙ ap tells (sym same), ap tells_last left ∙ last_tail (left_of first h) last)

untold_step : (first : Opening) (s : Step) (h : Journal) → Conducted first (s ∷ h) → BeginsNone s → closed_tells (s ∷ h) ≡ [] → tells (left_of first h) ≡ tells (begun_work h) → tells_last (left_of first h) ≡ true → UntoldOrAlone first (s ∷ h)
untold_step first (at_port (answered r)) h c none going told last = inr (sym (ap tells_last c.0.next) ∙ last)
untold_step first (at_port e) h c none going told last = inl (told, last)
untold_step first (began o) h c none going told last = absurd none
untold_step first (did a ps) h c none going told last = let d = untold_did first h a c.0.0 last in inl (d.0 ∙ told, d.1)
untold_step first made_end h c none going told last = untold_pop first made_end h finish c.0.next refl refl refl told last
untold_step first evened h c none going told last = untold_pop first evened h normal c.0.rests.next refl refl refl told last
untold_step first paused h c none going told last = untold_pop first paused h pause c.0.rests.next refl refl refl told last
untold_step first (became call m) h c none going told last = inl (told, last)
untold_step first (cut k) h c none going told last = inl (tells_kept (left_of first h) ∙ told, last_kept (left_of first h) last)
untold_step first halted h c none going told last = untold_pop first halted h halt c.0.next refl refl refl told last
untold_step first closing h c none going told last = absurd (none_closed (closed_tells h) going)
untold_step first (turned t) h c none going told last = inl (told, last)

untold_on : (first : Opening) (s : Step) (h : Journal) → Conducted first (s ∷ h) → BeginsNone s → closed_tells (s ∷ h) ≡ [] → UntoldOrAlone first h → UntoldOrAlone first (s ∷ h)
untold_on first s h c none going (inl untold) = untold_step first s h c none going untold.0 untold.1
untold_on first s h c none going (inr alone) = inr (alone_on first s h none going alone)

untold : (first : Opening) (h : Journal) → Conducted first h → closed_tells h ≡ [] → is_unanswered h ≡ true → UntoldOrAlone first h
untold first [] c going one = absurd cc
untold first (began o ∷ h) c going one = inl (refl, begun_last first h o c.0)
untold first (closing ∷ h) c going one = absurd (none_closed (closed_tells h) going)
untold first (at_port e ∷ h) c going one = untold_on first (at_port e) h c tt going (untold first h c.1 going (was_unanswered e (is_unanswered h) one))
untold first (s ∷ h) c going one = untold_on first s h c tt going (untold first h c.1 going one)

-- ---- an epoch that a reset ends

-- what was answered of it, and what is left to tell, are what greets and what the lines tell
both_told : (first : Opening) (h : Journal) → IsEpoch first h → MayReset first h → first.tells ++ all_told (outcomes_of h) ≡ without_reports (answered_of h) ++ tells (left_of first h)
both_told first h is may =
    sym (append-nil (first.tells ++ all_told (outcomes_of h))) ∙ ap (λ (rs : List Reply). (first.tells ++ all_told (outcomes_of h)) ++ rs) (sym (going first h is may)) ∙ told_is first h is.conducted

answered_told : (made : ℕ) (first : Opening) (h : Journal) → IsEpoch first h → MayReset first h → is_unanswered h ≡ false → without_reports (answered_of h) ≡ first.tells ++ told_in (passed_by false made first h)
answered_told made first h is may all =
    let free : left_of first h ≡ [] = none_left (left_of first h) (only_told first h is.conducted (going first h is may) all) may.told in
    sym (append-nil (without_reports (answered_of h))) ∙ ap (λ (ts : List Task). without_reports (answered_of h) ++ tells ts) (sym free) ∙ sym (both_told first h is may)
    ∙ ap (λ (rs : List Reply). first.tells ++ rs) (sym (told_lines made first h))

broken_told : (made : ℕ) (first : Opening) (h : Journal) → IsEpoch first h → MayReset first h → is_unanswered h ≡ true → without_reports (answered_of h) ≡ first.tells ++ told_in (passed_by true made first h)
broken_told made first h is may one = by_left (untold first h is.conducted (going first h is may) one)
  where
    by_left : UntoldOrAlone first h → without_reports (answered_of h) ≡ first.tells ++ told_in (passed_by true made first h)
    by_left (inr alone) = absurd (subst Ends (none_left (left_of first h) alone may.told) (ends_there first h is.conducted (calm first h is may) one))
    by_left (inl none) = append_cancel_right (without_reports (answered_of h)) (first.tells ++ told_in (passed_by true made first h)) (tells (begun_work h))
        (ap (λ (rs : List Reply). without_reports (answered_of h) ++ rs) (sym none.0) ∙ sym (both_told first h is may)
        ∙ ap (λ (rs : List Reply). first.tells ++ rs) (sym (told_broken made first h one)) ∙ sym (append_assoc first.tells (told_in (passed_by true made first h)) (tells (begun_work h))))

pub told_at_end : (made : ℕ) (first : Opening) (h : Journal) → IsEpoch first h → MayReset first h → without_reports (answered_of h) ≡ first.tells ++ told_in (passed_at_reset made first h)
told_at_end made first h is may = by_one (is_unanswered h) refl
  where
    by_one : (t : Bool) → is_unanswered h ≡ t → without_reports (answered_of h) ≡ first.tells ++ told_in (passed_by (is_unanswered h) made first h)
    by_one true one = broken_told made first h is may one ∙ ap (λ (t : Bool). first.tells ++ told_in (passed_by t made first h)) (sym one)
    by_one false all = answered_told made first h is may all ∙ ap (λ (t : Bool). first.tells ++ told_in (passed_by t made first h)) (sym all)
