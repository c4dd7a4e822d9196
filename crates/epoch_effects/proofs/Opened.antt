-- Each epoch opens as the reset before it has left it.
use Rattle.std.proofs.Common.{◌≡◌, ℕ, Bool, true, false, cond, List, [], ◌∷◌, ◌++◌, refl, sym, ap, ◌∙◌, subst, append_assoc, append-nil}
use Rattle.feed_hold.specs.declared.Motion.TheVariants as motions
use Rattle.flight.specs.Places.{end_from, origin}
use Rattle.modal_state.specs.Modes.{opening_parser}
use Rattle.modal_state.specs.declared.Offsets.{Offsets}
use Rattle.settings.specs.declared.Settings.{Settings}
use Rattle.run_rules.specs.declared.State.{State}
use Rattle.run_rules.specs.Outcomes.{Before, at_place}
use Rattle.run_rules.specs.Reports.{state_behind}
use Rattle.run_rules.specs.Work.{Outcome}
use Rattle.run_texts.specs.Courses.{Passed, Reset, behind_cut, lines_in, reset_state}
use Rattle.run_texts.specs.Courses.Passed.{a_line, a_broken, a_cut, a_reset}
use Rattle.run_texts.specs.Points.{Point}
use Rattle.step_line.specs.Logs.{NewestFirst}
use Rattle.units.specs.declared.Steps3.{Steps3}
use Rattle.board_rules.specs.Conduct.{Conducted}
use Rattle.board_journal.specs.Openings.{Opening}
use Rattle.board_journal.specs.Steps.{Journal, given_of}
use Rattle.board_journal.specs.Steps.Step.{began, cut}
use Rattle.board_rules.specs.Turns.{is_limited}
use Rattle.board_rules.proofs.Growing.{state_on}
use Rattle.board_epochs.specs.Epochs.{Closed, Epochs, AreClosed, AreEpochs, answered_state, opening_behind, reset_of, ticks_made}
use Rattle.board_epochs.specs.Epochs.Epochs.{goes, resets}
use Rattle.epoch_courses.specs.Course.{is_made, is_unanswered, passed_by, passed_so_far, passed_at_reset, made_at_halt, closed_course, course_of, before_by, point_broken}
use Rattle.epoch_courses.proofs.Broken.{kept_answered, kept_broken}
use Rattle.epoch_courses.proofs.Epoch.{SameKept}
use Rattle.epoch_effects.specs.Effects.{EpochEffects}
use Rattle.epoch_effects.specs.Over.{effects_so_far, effects_at_reset, closed_effects, effects_of}
use Rattle.epoch_effects.specs.Reports.{AreOpened, resets_of}
use Rattle.epoch_effects.proofs.Passed.{HasNoReset, none_passed, lines_both}

-- ---- the state that answered lines leave

same_kept : (s t : State) → s ≡ t → SameKept s t
same_kept s t is = record { settings = ap (λ (x : State). x.settings) is; offsets = ap (λ (x : State). x.parser.offsets) is }

both_kept : (r s t : State) → SameKept r s → SameKept s t → SameKept r t
both_kept r s t a b = record { settings = a.settings ∙ b.settings; offsets = a.offsets ∙ b.offsets }

abbrev state_told : Opening → List Passed → State
state_told first ps = state_behind first.state (lines_in ps)

no_line : (t : Bool) (k : ℕ) (at : Steps3) → lines_in (cond t (a_cut k at ∷ []) []) ≡ []
no_line true k at = refl
no_line false k at = refl

cut_told : (broken : Bool) (made : ℕ) (first : Opening) (h : Journal) (k : ℕ) → state_told first (passed_by broken made first (cut k ∷ h)) ≡ state_told first (passed_by broken made first h)
cut_told broken made first h k =
    let at = end_from first.place (given_of h) in
    ap (state_behind first.state)
    (lines_both (passed_by broken made first h) (cond (is_made made h) (a_cut k at ∷ []) []) ∙ ap (λ (os : List Outcome). lines_in (passed_by broken made first h) ++ os) (no_line (is_made made h) k at)
    ∙ append-nil (lines_in (passed_by broken made first h)))

-- a cut changes the position alone
cut_kept : (t : Bool) (at : Steps3) (b : Before) → SameKept b.state (cond t (at_place at b) b).state
cut_kept true at b = record { settings = refl; offsets = refl }
cut_kept false at b = record { settings = refl; offsets = refl }

cut_broken : (t : Bool) (at : Steps3) (p : Point) → SameKept p.before.state (cond t (behind_cut at p) p).before.state
cut_broken true at p = record { settings = refl; offsets = refl }
cut_broken false at p = record { settings = refl; offsets = refl }

lines_kept : (made : ℕ) (first : Opening) (h : Journal) → SameKept (state_told first (passed_by false made first h)) (before_by made first h).state
lines_kept made first [] = record { settings = refl; offsets = refl }
lines_kept made first (began o ∷ h) =
    same_kept (state_told first (passed_by false made first (began o ∷ h))) o.next
    (ap (state_behind first.state) (lines_both (passed_by false made first h) (a_line o ∷ [])) ∙ state_on first.state (lines_in (passed_by false made first h)) o)
lines_kept made first (cut k ∷ h) =
    let b = before_by made first h in
    let at = end_from first.place (given_of h) in
    both_kept (state_told first (passed_by false made first (cut k ∷ h))) b.state (before_by made first (cut k ∷ h)).state
    (subst (λ (s : State). SameKept s b.state) (sym (cut_told false made first h k)) (lines_kept made first h)) (cut_kept (is_made made h) at b)
lines_kept made first (_ ∷ h) = lines_kept made first h

broken_kept : (made : ℕ) (first : Opening) (h : Journal) → SameKept (state_told first (passed_by true made first h)) (point_broken made first h).before.state
broken_kept made first [] = record { settings = refl; offsets = refl }
broken_kept made first (began o ∷ h) =
    both_kept (state_told first (passed_by true made first (began o ∷ h))) (state_told first (passed_by false made first h)) (before_by made first h).state
    (same_kept (state_told first (passed_by true made first (began o ∷ h))) (state_told first (passed_by false made first h))
    (ap (state_behind first.state) (lines_both (passed_by false made first h) (a_broken o ∷ []) ∙ append-nil (lines_in (passed_by false made first h)))))
    (lines_kept made first h)
broken_kept made first (cut k ∷ h) =
    let p = point_broken made first h in
    let at = end_from first.place (given_of h) in
    both_kept (state_told first (passed_by true made first (cut k ∷ h))) p.before.state (point_broken made first (cut k ∷ h)).before.state
    (subst (λ (s : State). SameKept s p.before.state) (sym (cut_told true made first h k)) (broken_kept made first h)) (cut_broken (is_made made h) at p)
broken_kept made first (_ ∷ h) = broken_kept made first h

answered_told : (made : ℕ) (first : Opening) (h : Journal) → Conducted first h → SameKept (state_told first (passed_at_reset made first h)) (answered_state first h)
answered_told made first h c = by_one (is_unanswered h) refl
  where
    by_one : (t : Bool) → is_unanswered h ≡ t → SameKept (state_told first (passed_by (is_unanswered h) made first h)) (answered_state first h)
    by_one true one =
        subst (λ (t : Bool). SameKept (state_told first (passed_by t made first h)) (answered_state first h)) (sym one)
        (both_kept (state_told first (passed_by true made first h)) (point_broken made first h).before.state (answered_state first h) (broken_kept made first h) (kept_broken made first h c one))
    by_one false all =
        subst (λ (t : Bool). SameKept (state_told first (passed_by t made first h)) (answered_state first h)) (sym all)
        (both_kept (state_told first (passed_by false made first h)) (before_by made first h).state (answered_state first h) (lines_kept made first h) (kept_answered made first h c all))

abbrev reset_with : Steps3 → Settings → Offsets → State
reset_with at settings offsets = reset_state at (record { parser = record opening_parser { offsets = offsets }; settings = settings })

same_reset : (at : Steps3) (s t : State) → SameKept s t → reset_state at s ≡ reset_state at t
same_reset at s t same = ap (λ (x : Settings). reset_with at x s.parser.offsets) same.settings ∙ ap (reset_with at t.settings) same.offsets

-- ---- epoch by epoch

pub first_reset : (ps : List Passed) (r : Reset) (rest : List Passed) → HasNoReset ps → resets_of (ps ++ a_reset r ∷ rest) ≡ r ∷ resets_of rest
first_reset [] r rest none = refl
first_reset (a_reset s ∷ ps) r rest none = absurd none
first_reset (_ ∷ ps) r rest none = first_reset ps r rest none

pub no_reset : (ps : List Passed) → HasNoReset ps → resets_of ps ≡ []
no_reset [] none = refl
no_reset (a_reset s ∷ ps) none = absurd none
no_reset (_ ∷ ps) none = no_reset ps none

locked_so : (t : Bool) → is_limited (cond t motions.Alarm motions.Idle) ≡ t
locked_so true = refl
locked_so false = refl

-- how the epoch behind closed ones opens
abbrev OpenedBehind : (blocks : ℕ) → State → NewestFirst Closed → List Reset → List EpochEffects → Type 0
OpenedBehind blocks state es rs xs = AreOpened (opening_behind blocks state es).state (opening_behind blocks state es).place (is_limited (opening_behind blocks state es).motion) rs xs

opened_closed : (blocks : ℕ) (state : State) (es : NewestFirst Closed) (rest : List Passed) (xs : List EpochEffects) → AreClosed blocks state es → OpenedBehind blocks state es (resets_of rest) xs
    → AreOpened state origin false (resets_of (closed_course blocks state es ++ rest)) (closed_effects blocks state es ++ xs)
opened_closed blocks state [] rest xs c is = is
opened_closed blocks state (e ∷ es) rest xs c is =
    let first = opening_behind blocks state es in
    let h = e.journal in
    let made = made_at_halt (ticks_made es) e.work in
    let passed = passed_at_reset made first h in
    let r = reset_of (ticks_made es) first h e.work in
    let x = effects_at_reset made first h in
    let here : OpenedBehind blocks state es (r ∷ resets_of rest) (x ∷ xs) = (
      record { state = refl; stands = refl; locks = refl },
      refl,
      subst (λ (s : State). AreOpened s r.at r.locked (resets_of rest) xs) (sym (same_reset r.at (state_told first passed) (answered_state first h) (answered_told made first h c.0.resetting.epoch.conducted)))
          (subst (λ (t : Bool). AreOpened (reset_state r.at (answered_state first h)) r.at t (resets_of rest) xs) (locked_so r.locked) is),
    ) in
    let all = opened_closed blocks state es (passed ++ a_reset r ∷ rest) (x ∷ xs) c.1
    (subst (λ (rs : List Reset). OpenedBehind blocks state es rs (x ∷ xs)) (sym (first_reset passed r rest (none_passed (is_unanswered h) made first h))) here) in
    subst (λ (ps : List Passed). AreOpened state origin false (resets_of ps) (closed_effects blocks state (e ∷ es) ++ xs))
    (sym (append_assoc (closed_course blocks state es) (passed ++ a_reset r ∷ []) rest ∙ ap (λ (ps : List Passed). closed_course blocks state es ++ ps) (append_assoc passed (a_reset r ∷ []) rest)))
    (subst (λ (ys : List EpochEffects). AreOpened state origin false (resets_of (closed_course blocks state es ++ (passed ++ a_reset r ∷ rest))) ys) (sym (append_assoc (closed_effects blocks state es) (x ∷ []) xs)) all)

-- the last one
opened_last : (blocks : ℕ) (state : State) (es : NewestFirst Closed) (ps : List Passed) (x : EpochEffects) → HasNoReset ps → OpenedBehind blocks state es [] (x ∷ []) → OpenedBehind blocks state es (resets_of ps) (x ∷ [])
opened_last blocks state es ps x none is = subst (λ (rs : List Reset). OpenedBehind blocks state es rs (x ∷ [])) (sym (no_reset ps none)) is

pub opened : (blocks : ℕ) (state : State) (made : ℕ) (es : Epochs) → AreEpochs blocks state es → AreOpened state origin false (resets_of (course_of blocks state made es)) (effects_of blocks state made es)
opened blocks state made (goes es h) c =
    let first = opening_behind blocks state es in
    let x = effects_so_far made first h in
    opened_closed blocks state es (passed_so_far made first h) (x ∷ []) c.0
    (opened_last blocks state es (passed_so_far made first h) x (none_passed false made first h) (record { state = refl; stands = refl; locks = refl }, refl))
opened blocks state made (resets es h w) c =
    let first = opening_behind blocks state es in
    let x = effects_at_reset made first h in
    opened_closed blocks state es (passed_at_reset made first h) (x ∷ []) c.0
    (opened_last blocks state es (passed_at_reset made first h) x (none_passed (is_unanswered h) made first h) (record { state = refl; stands = refl; locks = refl }, refl))
