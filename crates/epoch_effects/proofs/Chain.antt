-- Epoch by epoch, what words of flags have done is as what was taken.
use Rattle.std.proofs.Common.{◌≡◌, ℕ, ◌≤◌, Bool, false, List, [], ◌∷◌, ◌++◌, map, refl, sym, ap, ◌∙◌, subst, append_assoc, append-nil, arith}
use Rattle.std.proofs.lemmas.Grind.{flat_map-append}
use Rattle.std.proofs.lemmas.List.{map-append}
use Rattle.std.specs.List.{AllByRecursion, flat_map}
use Rattle.run_rules.specs.declared.State.{State}
use Rattle.run_texts.specs.Courses.{Passed}
use Rattle.run_texts.specs.Courses.Passed.{a_reset}
use Rattle.step_line.specs.Logs.{NewestFirst}
use Rattle.board_rules.specs.Conduct.{Conducted}
use Rattle.board_journal.specs.Openings.{Opening}
use Rattle.board_journal.specs.Steps.{Journal, port_log, has_limited, known_of}
use Rattle.board_rules.proofs.Cancels.{few_cuts}
use Rattle.board_epochs.specs.Epochs.{Closed, Epochs, AreClosed, AreEpochs, IsEpoch, opening_behind, reset_of, ticks_made, closed_log, log_of}
use Rattle.board_epochs.specs.Epochs.Epochs.{goes, resets}
use Rattle.board_epochs.specs.Resets.{MayReset}
use Rattle.board_epochs.proofs.Prompting.{calm}
use Rattle.epoch_courses.specs.Course.{is_unanswered, passed_by, passed_at_reset, made_at_halt, closed_course, course_of, open_journal}
use Rattle.epoch_courses.specs.Drives.{Driven, drives_in, closed_drives, drives_of}
use Rattle.epoch_courses.proofs.Halted.{known_made}
use Rattle.epoch_effects.specs.Effects.{EpochEffects, AreEffects, IsAsTaken, epochs_in, is_alarmed}
use Rattle.epoch_effects.specs.Over.{effects_with, effects_so_far, effects_at_reset, closed_effects, effects_of}
use Rattle.epoch_effects.specs.Words.{WordsTaken, AreTakenIn, words_taken}
use Rattle.epoch_effects.proofs.Parts.{changes_there, slowed_there}
use Rattle.epoch_effects.proofs.Passed.{epoch_ends, epoch_goes, alarmed_passed, calm_passed}
use Rattle.epoch_courses.proofs.Cuts.{passed_cuts}
use Rattle.epoch_effects.proofs.Words.{one_more}

-- ---- one epoch

as_taken : (broken : Bool) (made : ℕ) (first : Opening) (h : Journal) → Conducted first h → known_of h ≤ made → has_limited h ≡ is_alarmed (passed_by broken made first h)
    → IsAsTaken (effects_with (passed_by broken made first h) made first h)
as_taken broken made first h c known alarmed = record {
  changes = changes_there made first h c known;
  slowed = slowed_there made first h (is_alarmed (passed_by broken made first h)) c known alarmed;
  cuts = (let few = passed_cuts broken made first h in let words = few_cuts first h c in omega (arith, few, words));
}

so_far : (made : ℕ) (first : Opening) (h : Journal) → Conducted first h → known_of h ≤ made → IsAsTaken (effects_so_far made first h)
so_far made first h c known = as_taken false made first h c known (sym (alarmed_passed made first h c))

at_reset : (made : ℕ) (first : Opening) (h : Journal) → IsEpoch first h → MayReset first h → known_of h ≤ made → IsAsTaken (effects_at_reset made first h)
at_reset made first h is may known =
    let none = calm first h is may in
    as_taken (is_unanswered h) made first h is.conducted known (none ∙ sym (calm_passed (is_unanswered h) made first h is.conducted none))

-- ---- all of them

all_both : (xs ys : List EpochEffects) → AllByRecursion IsAsTaken xs → AllByRecursion IsAsTaken ys → AllByRecursion IsAsTaken (xs ++ ys)
all_both [] ys f g = g
all_both (x ∷ xs) ys f g = (f.0, all_both xs ys f.1 g)

closed_as_taken : (blocks : ℕ) (state : State) (es : NewestFirst Closed) → AreClosed blocks state es → AllByRecursion IsAsTaken (closed_effects blocks state es)
closed_as_taken blocks state [] c = tt
closed_as_taken blocks state (e ∷ es) c =
    let first = opening_behind blocks state es in
    let made = made_at_halt (ticks_made es) e.work in
    all_both (closed_effects blocks state es) (effects_at_reset made first e.journal ∷ []) (closed_as_taken blocks state es c.1)
    (at_reset made first e.journal c.0.resetting.epoch c.0.resetting.may (known_made blocks state e es c), tt)

abbrev passed_of : List EpochEffects → List (List Passed)
passed_of es = map (λ (e : EpochEffects). e.passed) es

abbrev driven_of : List EpochEffects → List Driven
driven_of es = flat_map (λ (e : EpochEffects). e.drives) es

closed_passed : (blocks : ℕ) (state : State) (es : NewestFirst Closed) (rest : List Passed) → epochs_in (closed_course blocks state es ++ rest) ≡ passed_of (closed_effects blocks state es) ++ epochs_in rest
closed_passed blocks state [] rest = refl
closed_passed blocks state (e ∷ es) rest =
    let first = opening_behind blocks state es in
    let made = made_at_halt (ticks_made es) e.work in
    let passed = passed_at_reset made first e.journal in
    let r = reset_of (ticks_made es) first e.journal e.work in
    ap epochs_in (append_assoc (closed_course blocks state es) (passed ++ a_reset r ∷ []) rest ∙ ap (λ (ps : List Passed). closed_course blocks state es ++ ps) (append_assoc passed (a_reset r ∷ []) rest))
    ∙ closed_passed blocks state es (passed ++ a_reset r ∷ rest)
    ∙ ap (λ (all : List (List Passed)). passed_of (closed_effects blocks state es) ++ all) (epoch_ends (is_unanswered e.journal) made first e.journal r rest)
    ∙ sym (append_assoc (passed_of (closed_effects blocks state es)) (passed ∷ []) (epochs_in rest))
    ∙ ap (λ (all : List (List Passed)). all ++ epochs_in rest) (sym (map-append (λ (x : EpochEffects). x.passed) (closed_effects blocks state es) (effects_at_reset made first e.journal ∷ [])))

closed_driven : (blocks : ℕ) (state : State) (es : NewestFirst Closed) → closed_drives blocks state es ≡ driven_of (closed_effects blocks state es)
closed_driven blocks state [] = refl
closed_driven blocks state (e ∷ es) =
    let x = effects_at_reset (made_at_halt (ticks_made es) e.work) (opening_behind blocks state es) e.journal in
    ap (λ (ds : List Driven). ds ++ x.drives) (closed_driven blocks state es) ∙ ap (λ (ds : List Driven). driven_of (closed_effects blocks state es) ++ ds) (sym (append-nil x.drives))
    ∙ sym (flat_map-append (λ (y : EpochEffects). y.drives) (closed_effects blocks state es) (x ∷ []))

with_last : (blocks : ℕ) (state : State) (es : NewestFirst Closed) (broken : Bool) (made : ℕ) (first : Opening) (h : Journal) → AreClosed blocks state es → IsAsTaken (effects_with (passed_by broken made first h) made first h)
    → AreEffects (closed_course blocks state es ++ passed_by broken made first h) (closed_drives blocks state es ++ drives_in made first h) (closed_effects blocks state es ++ effects_with (passed_by broken made first h) made first h ∷ [])
with_last blocks state es broken made first h c last =
    let x = effects_with (passed_by broken made first h) made first h in
    record {
      passed = closed_passed blocks state es (passed_by broken made first h) ∙ ap (λ (all : List (List Passed)). passed_of (closed_effects blocks state es) ++ all) (epoch_goes broken made first h)
          ∙ sym (map-append (λ (y : EpochEffects). y.passed) (closed_effects blocks state es) (x ∷ []));
      driven = ap (λ (ds : List Driven). ds ++ x.drives) (closed_driven blocks state es) ∙ ap (λ (ds : List Driven). driven_of (closed_effects blocks state es) ++ ds) (sym (append-nil x.drives))
          ∙ sym (flat_map-append (λ (y : EpochEffects). y.drives) (closed_effects blocks state es) (x ∷ []));
      each = all_both (closed_effects blocks state es) (x ∷ []) (closed_as_taken blocks state es c) (last, tt);
    }

pub effects_are : (blocks : ℕ) (state : State) (made : ℕ) (es : Epochs) → AreEpochs blocks state es → known_of (open_journal es) ≤ made → AreEffects (course_of blocks state made es) (drives_of blocks state made es) (effects_of blocks state made es)
effects_are blocks state made (goes es h) c known = let first = opening_behind blocks state es in with_last blocks state es false made first h c.0 (so_far made first h c.1.conducted known)
effects_are blocks state made (resets es h w) c known = let first = opening_behind blocks state es in with_last blocks state es (is_unanswered h) made first h c.0 (at_reset made first h c.1.epoch c.1.may known)

-- ---- what was taken

abbrev taken_of : List EpochEffects → List WordsTaken
taken_of es = map (λ (e : EpochEffects). e.taken) es

with_one : (all : WordsTaken) (es : List EpochEffects) (e : EpochEffects) → AreTakenIn all (taken_of es ++ e.taken ∷ []) → AreTakenIn all (taken_of (es ++ e ∷ []))
with_one all es e is = subst (λ (ws : List WordsTaken). AreTakenIn all ws) (sym (map-append (λ (x : EpochEffects). x.taken) es (e ∷ []))) is

closed_taken : (blocks : ℕ) (state : State) (es : NewestFirst Closed) → AreTakenIn (words_taken (closed_log es)) (taken_of (closed_effects blocks state es))
closed_taken blocks state [] = record { each = tt; cancels = omega arith; asked = omega arith }
closed_taken blocks state (e ∷ es) =
    with_one (words_taken (closed_log (e ∷ es))) (closed_effects blocks state es) (effects_at_reset (made_at_halt (ticks_made es) e.work) (opening_behind blocks state es) e.journal)
    (one_more (port_log e.work) (ticks_made es) e.journal (closed_log es) (taken_of (closed_effects blocks state es)) (closed_taken blocks state es))

pub taken_once : (blocks : ℕ) (state : State) (made : ℕ) (es : Epochs) → AreTakenIn (words_taken (log_of es)) (taken_of (effects_of blocks state made es))
taken_once blocks state made (goes es h) =
    with_one (words_taken (log_of (goes es h))) (closed_effects blocks state es) (effects_so_far made (opening_behind blocks state es) h) (one_more [] (ticks_made es) h (closed_log es) (taken_of (closed_effects blocks state es)) (closed_taken blocks state es))
taken_once blocks state made (resets es h w) =
    with_one (words_taken (log_of (resets es h w))) (closed_effects blocks state es) (effects_at_reset made (opening_behind blocks state es) h)
    (one_more (port_log w) (ticks_made es) h (closed_log es) (taken_of (closed_effects blocks state es)) (closed_taken blocks state es))
