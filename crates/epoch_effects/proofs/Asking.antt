-- Of each part all was asked that its lines but the last ask for.
use Rattle.std.proofs.Common.{◌≡◌, ℕ, ◌≤◌, Bool, true, false, cond, List, [], ◌∷◌, ◌++◌, map, reverse, refl, sym, ap, ◌∙◌, subst, append_assoc, append-nil}
use Rattle.std.proofs.lemmas.List.{map-append}
use Rattle.std.specs.List.{AllByRecursion}
use Rattle.flight.specs.Places.{end_from}
use Rattle.run_rules.specs.declared.State.{State}
use Rattle.run_rules.specs.Work.{Outcome}
use Rattle.run_texts.specs.Courses.{Passed}
use Rattle.run_texts.specs.Courses.Passed.{a_line, a_broken, a_cut}
use Rattle.run_texts.specs.Parts.{Part, parts_of}
use Rattle.step_line.specs.Logs.{NewestFirst}
use Rattle.board_rules.specs.Conduct.{Conducted}
use Rattle.board_rules.specs.Cuts.{part_outcomes, part_of}
use Rattle.board_rules.specs.Cuts.{parts_of as board_parts}
use Rattle.board_journal.specs.Openings.{Opening}
use Rattle.board_journal.specs.Steps.{Journal, given_of, known_of}
use Rattle.board_journal.specs.Steps.Step.{began, cut}
use Rattle.board_rules.proofs.Parting.{done_before}
use Rattle.board_epochs.specs.Epochs.{Closed, Epochs, AreClosed, AreEpochs, IsEpoch, opening_behind, ticks_made}
use Rattle.board_epochs.specs.Epochs.Epochs.{goes, resets}
use Rattle.board_epochs.specs.Resets.{MayReset}
use Rattle.epoch_courses.specs.Course.{is_made, is_unanswered, passed_by, made_at_halt, open_journal}
use Rattle.epoch_courses.specs.Drives.{Driven, is_pending, driven_by_cut, driven_since, drives_in}
use Rattle.epoch_courses.proofs.Broken.{IsUncut}
use Rattle.epoch_courses.proofs.Drives.{parts_end, parts_broken_end, uncut_made, others_made, pends_there}
use Rattle.epoch_courses.proofs.Halted.{known_made}
use Rattle.epoch_courses.proofs.Made.{AllMade}
use Rattle.epoch_courses.proofs.Uncut.{uncut_there}
use Rattle.epoch_effects.specs.Asking.{IsAskedAllBut, AreAsked, AsksInTurn}
use Rattle.epoch_effects.specs.Effects.{EpochEffects}
use Rattle.epoch_effects.specs.Over.{effects_so_far, effects_at_reset, closed_effects, effects_of}
use Rattle.epoch_effects.proofs.Changes.{with_one_cut}
use Rattle.epoch_effects.proofs.Counts.{parts_cut}
use Rattle.epoch_effects.proofs.Parts.{all_made, unmade_drives}

-- ---- the parts of an epoch

asked_since : (first : Opening) (h : Journal) → Conducted first h → IsAskedAllBut (part_outcomes h) (driven_since first h)
asked_since first h c = let d = done_before first h c in record { rest = d.0; is = d.1 }

asked_cut : (first : Opening) (h : Journal) (k : ℕ) → Conducted first h → IsAskedAllBut (part_outcomes h) (driven_by_cut (part_of first k h))
asked_cut first h k c = let d = done_before first h c in record { rest = d.0; is = d.1 }

abbrev all_cut : Opening → Journal → List Driven → List Driven
all_cut first h ds = map driven_by_cut (reverse (board_parts first h)) ++ ds

asked_there : (made : ℕ) (first : Opening) (h : Journal) (rest : List Passed) (ds : List Driven) → Conducted first h → AllMade made h → AreAsked (parts_of (map a_line (part_outcomes h) ++ rest)) ds
    → AreAsked (parts_of (passed_by false made first h ++ rest)) (all_cut first h ds)
asked_there made first [] rest ds c all is = is
asked_there made first (began o ∷ h) rest ds c all is =
    subst (λ (ps : List Passed). AreAsked (parts_of ps) (all_cut first h ds)) (sym (append_assoc (passed_by false made first h) (a_line o ∷ []) rest))
    (asked_there made first h (a_line o ∷ rest) ds c.1 all
    (subst (λ (ps : List Passed). AreAsked (parts_of ps) ds)
    (ap (λ (ps : List Passed). ps ++ rest) (map-append a_line (part_outcomes h) (o ∷ [])) ∙ append_assoc (map a_line (part_outcomes h)) (a_line o ∷ []) rest) is))
asked_there made first (cut k ∷ h) rest ds c all is =
    let at = end_from first.place (given_of h) in
    let q = part_of first k h in
    let same : (passed_by false made first h ++ cond (is_made made h) (a_cut k at ∷ []) []) ++ rest ≡ passed_by false made first h ++ a_cut k at ∷ rest =
    ap (λ (t : Bool). (passed_by false made first h ++ cond t (a_cut k at ∷ []) []) ++ rest) all.0 ∙ append_assoc (passed_by false made first h) (a_cut k at ∷ []) rest in
    let here : IsAskedAllBut (part_outcomes h ++ []) (driven_by_cut q) = subst (λ (os : List Outcome). IsAskedAllBut os (driven_by_cut q)) (sym (append-nil (part_outcomes h))) (asked_cut first h k c.1) in
    subst (λ (xs : List Driven). AreAsked (parts_of (passed_by false made first (cut k ∷ h) ++ rest)) xs) (sym (with_one_cut q (board_parts first h) ds))
    (subst (λ (ps : List Passed). AreAsked (parts_of ps) (all_cut first h (driven_by_cut q ∷ ds))) (sym same)
    (asked_there made first h (a_cut k at ∷ rest) (driven_by_cut q ∷ ds) c.1 all.1
    (subst (λ (ps : List Part). AreAsked ps (driven_by_cut q ∷ ds)) (sym (parts_cut (part_outcomes h) k at rest)) (here, is))))
asked_there made first (_ ∷ h) rest ds c all is = asked_there made first h rest ds c.1 all is

-- up to the end of the epoch
asked_to_end : (made : ℕ) (first : Opening) (h : Journal) (d : Driven) → Conducted first h → AllMade made h → IsAskedAllBut (part_outcomes h) d → AreAsked (parts_of (passed_by false made first h)) (all_cut first h (d ∷ []))
asked_to_end made first h d c all is =
    subst (λ (ps : List Passed). AreAsked (parts_of ps) (all_cut first h (d ∷ []))) (append-nil (passed_by false made first h))
    (asked_there made first h [] (d ∷ []) c all
    (subst (λ (ps : List Part). AreAsked ps (d ∷ [])) (sym (parts_end (part_outcomes h))) (subst (λ (os : List Outcome). IsAskedAllBut os d) (sym (append-nil (part_outcomes h))) is, tt)))

asked_broken : (made : ℕ) (first : Opening) (h : Journal) (d : Driven) → Conducted first h → IsUncut h → AllMade made h → IsAskedAllBut (part_outcomes h) d → AreAsked (parts_of (passed_by true made first h)) (all_cut first h (d ∷ []))
asked_broken made first [] d c uncut all is = absurd uncut
asked_broken made first (began o ∷ h) d c uncut all is =
    asked_there made first h (a_broken o ∷ []) (d ∷ []) c.1 all (subst (λ (ps : List Part). AreAsked ps (d ∷ [])) (sym (parts_broken_end (part_outcomes h) o)) (is, tt))
asked_broken made first (cut k ∷ h) d c uncut all is = absurd uncut
asked_broken made first (_ ∷ h) d c uncut all is = asked_broken made first h d c.1 uncut all is

-- ---- one epoch

abbrev InTurn : (broken : Bool) → ℕ → Opening → Journal → Type 0
InTurn broken made first h = AreAsked (parts_of (passed_by broken made first h)) (drives_in made first h)

asks_so_far : (made : ℕ) (first : Opening) (h : Journal) → Conducted first h → known_of h ≤ made → InTurn false made first h
asks_so_far made first h c known = by_pending (is_pending made h) refl
  where
    by_pending : (t : Bool) → is_pending made h ≡ t → InTurn false made first h
    by_pending true one =
        let p = pends_there made first h c known one in
        let q = part_of first p.k p.before in
        subst (λ (ds : List Driven). AreAsked (parts_of (passed_by false made first h)) ds) (sym (unmade_drives made first h one q (board_parts first p.before) p.parts))
        (subst (λ (ps : List Passed). AreAsked (parts_of ps) (all_cut first p.before (driven_by_cut q ∷ []))) (sym p.passed)
        (asked_to_end made first p.before (driven_by_cut q) p.conducted.1 p.all (asked_cut first p.before p.k p.conducted.1)))
    by_pending false none =
        subst (λ (ds : List Driven). AreAsked (parts_of (passed_by false made first h)) ds) (sym (all_made made first h none))
        (asked_to_end made first h (driven_since first h) c (others_made made first h c known none) (asked_since first h c))

asks_broken : (made : ℕ) (first : Opening) (h : Journal) → Conducted first h → known_of h ≤ made → IsUncut h → InTurn true made first h
asks_broken made first h c known uncut =
    let none = uncut_made made h uncut in
    subst (λ (ds : List Driven). AreAsked (parts_of (passed_by true made first h)) ds) (sym (all_made made first h none))
    (asked_broken made first h (driven_since first h) c uncut (others_made made first h c known none) (asked_since first h c))

asks_at_reset : (made : ℕ) (first : Opening) (h : Journal) → IsEpoch first h → MayReset first h → known_of h ≤ made → InTurn (is_unanswered h) made first h
asks_at_reset made first h is may known = by_one (is_unanswered h) refl
  where
    by_one : (t : Bool) → is_unanswered h ≡ t → InTurn (is_unanswered h) made first h
    by_one true one = subst (λ (t : Bool). InTurn t made first h) (sym one) (asks_broken made first h is.conducted known (uncut_there first h is may one))
    by_one false all = subst (λ (t : Bool). InTurn t made first h) (sym all) (asks_so_far made first h is.conducted known)

-- ---- all of them

both_ask : (xs ys : List EpochEffects) → AllByRecursion AsksInTurn xs → AllByRecursion AsksInTurn ys → AllByRecursion AsksInTurn (xs ++ ys)
both_ask [] ys f g = g
both_ask (x ∷ xs) ys f g = (f.0, both_ask xs ys f.1 g)

closed_ask : (blocks : ℕ) (state : State) (es : NewestFirst Closed) → AreClosed blocks state es → AllByRecursion AsksInTurn (closed_effects blocks state es)
closed_ask blocks state [] c = tt
closed_ask blocks state (e ∷ es) c =
    let first = opening_behind blocks state es in
    let made = made_at_halt (ticks_made es) e.work in
    both_ask (closed_effects blocks state es) (effects_at_reset made first e.journal ∷ []) (closed_ask blocks state es c.1)
    (asks_at_reset made first e.journal c.0.resetting.epoch c.0.resetting.may (known_made blocks state e es c), tt)

pub epochs_ask : (blocks : ℕ) (state : State) (made : ℕ) (es : Epochs) → AreEpochs blocks state es → known_of (open_journal es) ≤ made → AllByRecursion AsksInTurn (effects_of blocks state made es)
epochs_ask blocks state made (goes es h) c known =
    let first = opening_behind blocks state es in
    both_ask (closed_effects blocks state es) (effects_so_far made first h ∷ []) (closed_ask blocks state es c.0) (asks_so_far made first h c.1.conducted known, tt)
epochs_ask blocks state made (resets es h w) c known =
    let first = opening_behind blocks state es in
    both_ask (closed_effects blocks state es) (effects_at_reset made first h ∷ []) (closed_ask blocks state es c.0) (asks_at_reset made first h c.1.epoch c.1.may known, tt)
