-- Each epoch is greeted first, as the reset before it tells.
use Rattle.std.proofs.Common.{inl, ℕ, false, List, [], ◌∷◌, ◌++◌, refl, sym, ap, ◌∙◌, subst, append_assoc}
use Rattle.run_rules.specs.declared.State.{State}
use Rattle.run_texts.specs.Courses.{Passed, Reset}
use Rattle.run_texts.specs.Courses.Passed.{a_reset}
use Rattle.status_report.specs.declared.Reply.TheVariants.{Banner}
use Rattle.step_line.specs.Logs.{NewestFirst}
use Rattle.board_epochs.specs.Epochs.{Closed, Epochs, AreClosed, AreEpochs, opening_behind, reset_of, ticks_made}
use Rattle.board_epochs.specs.Epochs.Epochs.{goes, resets}
use Rattle.board_epochs.proofs.Greetings.{greeted_now, greeted_at_reset}
use Rattle.epoch_courses.specs.Course.{is_unanswered, passed_so_far, passed_at_reset, made_at_halt, closed_course, course_of}
use Rattle.epoch_effects.specs.Effects.{EpochEffects}
use Rattle.epoch_effects.specs.Greetings.{AreGreeted}
use Rattle.epoch_effects.specs.Over.{effects_so_far, effects_at_reset, closed_effects, effects_of}
use Rattle.epoch_effects.specs.Reports.{resets_of}
use Rattle.epoch_effects.proofs.Opened.{first_reset, no_reset}
use Rattle.epoch_effects.proofs.Passed.{HasNoReset, none_passed}

-- how the epoch behind closed ones is greeted
abbrev GreetedBehind : (blocks : ℕ) → State → NewestFirst Closed → List Reset → List EpochEffects → Type 0
GreetedBehind blocks state es rs xs = AreGreeted (opening_behind blocks state es).tells rs xs

greeted_closed : (blocks : ℕ) (state : State) (es : NewestFirst Closed) (rest : List Passed) (xs : List EpochEffects) → AreClosed blocks state es → GreetedBehind blocks state es (resets_of rest) xs
    → AreGreeted (Banner ∷ []) (resets_of (closed_course blocks state es ++ rest)) (closed_effects blocks state es ++ xs)
greeted_closed blocks state [] rest xs c is = is
greeted_closed blocks state (e ∷ es) rest xs c is =
    let first = opening_behind blocks state es in
    let h = e.journal in
    let made = made_at_halt (ticks_made es) e.work in
    let passed = passed_at_reset made first h in
    let r = reset_of (ticks_made es) first h e.work in
    let x = effects_at_reset made first h in
    let here : GreetedBehind blocks state es (r ∷ resets_of rest) (x ∷ xs) = (greeted_at_reset first h c.0.resetting.epoch.conducted c.0.resetting.may, is) in
    let all = greeted_closed blocks state es (passed ++ a_reset r ∷ rest) (x ∷ xs) c.1
    (subst (λ (rs : List Reset). GreetedBehind blocks state es rs (x ∷ xs)) (sym (first_reset passed r rest (none_passed (is_unanswered h) made first h))) here) in
    subst (λ (ps : List Passed). AreGreeted (Banner ∷ []) (resets_of ps) (closed_effects blocks state (e ∷ es) ++ xs))
    (sym (append_assoc (closed_course blocks state es) (passed ++ a_reset r ∷ []) rest ∙ ap (λ (ps : List Passed). closed_course blocks state es ++ ps) (append_assoc passed (a_reset r ∷ []) rest)))
    (subst (λ (ys : List EpochEffects). AreGreeted (Banner ∷ []) (resets_of (closed_course blocks state es ++ (passed ++ a_reset r ∷ rest))) ys) (sym (append_assoc (closed_effects blocks state es) (x ∷ []) xs)) all)

-- the last one
greeted_last : (blocks : ℕ) (state : State) (es : NewestFirst Closed) (ps : List Passed) (x : EpochEffects) → HasNoReset ps → GreetedBehind blocks state es [] (x ∷ []) → GreetedBehind blocks state es (resets_of ps) (x ∷ [])
greeted_last blocks state es ps x none is = subst (λ (rs : List Reset). GreetedBehind blocks state es rs (x ∷ [])) (sym (no_reset ps none)) is

pub greeted : (blocks : ℕ) (state : State) (made : ℕ) (es : Epochs) → AreEpochs blocks state es → AreGreeted (Banner ∷ []) (resets_of (course_of blocks state made es)) (effects_of blocks state made es)
greeted blocks state made (goes es h) c =
    let first = opening_behind blocks state es in
    let x = effects_so_far made first h in
    greeted_closed blocks state es (passed_so_far made first h) (x ∷ []) c.0
    (greeted_last blocks state es (passed_so_far made first h) x (none_passed false made first h) (greeted_now first h c.1.conducted, refl))
greeted blocks state made (resets es h w) c =
    let first = opening_behind blocks state es in
    let x = effects_at_reset made first h in
    greeted_closed blocks state es (passed_at_reset made first h) (x ∷ []) c.0
    (greeted_last blocks state es (passed_at_reset made first h) x (none_passed (is_unanswered h) made first h) (inl (greeted_at_reset first h c.1.epoch.conducted c.1.may), refl))
