-- Epoch by epoch, what is answered fits.
use Rattle.std.proofs.Common.{◌≡◌, ℕ, ◌≤◌, Bool, true, false, List, [], ◌∷◌, ◌++◌, reverse, refl, sym, ap, ◌∙◌, subst, append-nil}
use Rattle.std.proofs.lemmas.Grind.{flat_map-append}
use Rattle.std.specs.List.{AllByRecursion, flat_map}
use Rattle.run_rules.specs.declared.State.{State}
use Rattle.run_rules.specs.Work.{Outcome}
use Rattle.status_report.specs.declared.Reply.{Reply}
use Rattle.step_line.specs.Logs.{NewestFirst}
use Rattle.board_rules.specs.Conduct.{Conducted}
use Rattle.board_journal.specs.Openings.{Opening}
use Rattle.board_journal.specs.Ports.{answered_in}
use Rattle.board_journal.specs.Steps.{Journal, port_log, known_of, answered_of}
use Rattle.board_rules.specs.Turns.{is_limited}
use Rattle.board_epochs.specs.Epochs.{Closed, Epochs, AreClosed, AreEpochs, IsEpoch, opening_behind, ticks_made, closed_log, log_behind, last_line}
use Rattle.board_epochs.specs.Epochs.Epochs.{goes, resets}
use Rattle.board_epochs.specs.Resets.{MayReset}
use Rattle.board_epochs.proofs.Onto.{answered_on}
use Rattle.board_epochs.proofs.Prompting.{calm}
use Rattle.epoch_courses.specs.Course.{is_unanswered, passed_by, made_at_halt, open_journal}
use Rattle.epoch_courses.specs.Told.{answered_by}
use Rattle.epoch_courses.proofs.Halted.{known_made}
use Rattle.epoch_courses.proofs.Uncut.{uncut_there}
use Rattle.epoch_effects.specs.Effects.{EpochEffects}
use Rattle.epoch_effects.specs.Over.{effects_with, effects_so_far, effects_at_reset, closed_effects, effects_of}
use Rattle.epoch_effects.specs.Pieces.{ArePublished}
use Rattle.epoch_effects.specs.Locks.{ShowLocks}
use Rattle.epoch_effects.specs.Reports.{HasReported, TellsLock, begun_in}
use Rattle.epoch_effects.proofs.Counts.{Counted, counted_so_far, counted_broken, lines_begun}
use Rattle.epoch_effects.proofs.Locks.{locks_shown}
use Rattle.epoch_effects.proofs.Passed.{alarmed_passed, calm_passed}
use Rattle.epoch_effects.proofs.Publishing.{published_so_far, published_broken}
use Rattle.epoch_effects.proofs.Reporting.{has_reported}
use Rattle.epoch_courses.proofs.Told.{none_answered}

-- ---- one epoch

so_far : (made : ℕ) (first : Opening) (h : Journal) → Conducted first h → known_of h ≤ made → HasReported (effects_so_far made first h)
so_far made first h c known = has_reported false made first h c known (counted_so_far made first h c known) (sym (alarmed_passed made first h c))

counted_at_reset : (made : ℕ) (first : Opening) (h : Journal) → IsEpoch first h → MayReset first h → known_of h ≤ made → Counted (is_unanswered h) made first h
counted_at_reset made first h is may known = by_one (is_unanswered h) refl
  where
    by_one : (t : Bool) → is_unanswered h ≡ t → Counted (is_unanswered h) made first h
    by_one true one = subst (λ (t : Bool). Counted t made first h) (sym one) (counted_broken made first h is.conducted known (uncut_there first h is may one))
    by_one false all = subst (λ (t : Bool). Counted t made first h) (sym all) (counted_so_far made first h is.conducted known)

at_reset : (made : ℕ) (first : Opening) (h : Journal) → IsEpoch first h → MayReset first h → known_of h ≤ made → HasReported (effects_at_reset made first h)
at_reset made first h is may known =
    let none = calm first h is may in
    has_reported (is_unanswered h) made first h is.conducted known (counted_at_reset made first h is may known) (none ∙ sym (calm_passed (is_unanswered h) made first h is.conducted none))

-- ---- all of them

all_both : (xs ys : List EpochEffects) → AllByRecursion HasReported xs → AllByRecursion HasReported ys → AllByRecursion HasReported (xs ++ ys)
all_both [] ys f g = g
all_both (x ∷ xs) ys f g = (f.0, all_both xs ys f.1 g)

closed_report : (blocks : ℕ) (state : State) (es : NewestFirst Closed) → AreClosed blocks state es → AllByRecursion HasReported (closed_effects blocks state es)
closed_report blocks state [] c = tt
closed_report blocks state (e ∷ es) c =
    let first = opening_behind blocks state es in
    let made = made_at_halt (ticks_made es) e.work in
    all_both (closed_effects blocks state es) (effects_at_reset made first e.journal ∷ []) (closed_report blocks state es c.1)
    (at_reset made first e.journal c.0.resetting.epoch c.0.resetting.may (known_made blocks state e es c), tt)

pub epochs_report : (blocks : ℕ) (state : State) (made : ℕ) (es : Epochs) → AreEpochs blocks state es → known_of (open_journal es) ≤ made → AllByRecursion HasReported (effects_of blocks state made es)
epochs_report blocks state made (goes es h) c known =
    let first = opening_behind blocks state es in
    all_both (closed_effects blocks state es) (effects_so_far made first h ∷ []) (closed_report blocks state es c.0) (so_far made first h c.1.conducted known, tt)
epochs_report blocks state made (resets es h w) c known =
    let first = opening_behind blocks state es in
    all_both (closed_effects blocks state es) (effects_at_reset made first h ∷ []) (closed_report blocks state es c.0) (at_reset made first h c.1.epoch c.1.may known, tt)

-- ---- how they tell of a lock

locks_so : (broken : Bool) (made : ℕ) (first : Opening) (h : Journal) → Conducted first h → ShowLocks (is_limited first.motion) (begun_in (passed_by broken made first h)) (reverse (answered_of h))
locks_so broken made first h c = subst (λ (os : List Outcome). ShowLocks (is_limited first.motion) os (reverse (answered_of h))) (sym (lines_begun broken made first h)) (locks_shown first h c)

both_locks : (xs ys : List EpochEffects) → AllByRecursion TellsLock xs → AllByRecursion TellsLock ys → AllByRecursion TellsLock (xs ++ ys)
both_locks [] ys f g = g
both_locks (x ∷ xs) ys f g = (f.0, both_locks xs ys f.1 g)

closed_locks : (blocks : ℕ) (state : State) (es : NewestFirst Closed) → AreClosed blocks state es → AllByRecursion TellsLock (closed_effects blocks state es)
closed_locks blocks state [] c = tt
closed_locks blocks state (e ∷ es) c =
    let first = opening_behind blocks state es in
    let made = made_at_halt (ticks_made es) e.work in
    both_locks (closed_effects blocks state es) (effects_at_reset made first e.journal ∷ []) (closed_locks blocks state es c.1) (locks_so (is_unanswered e.journal) made first e.journal c.0.resetting.epoch.conducted, tt)

pub epochs_lock : (blocks : ℕ) (state : State) (made : ℕ) (es : Epochs) → AreEpochs blocks state es → AllByRecursion TellsLock (effects_of blocks state made es)
epochs_lock blocks state made (goes es h) c =
    let first = opening_behind blocks state es in
    both_locks (closed_effects blocks state es) (effects_so_far made first h ∷ []) (closed_locks blocks state es c.0) (locks_so false made first h c.1.conducted, tt)
epochs_lock blocks state made (resets es h w) c =
    let first = opening_behind blocks state es in
    both_locks (closed_effects blocks state es) (effects_at_reset made first h ∷ []) (closed_locks blocks state es c.0) (locks_so (is_unanswered h) made first h c.1.epoch.conducted, tt)

-- ---- what was published

published_at_reset : (made : ℕ) (first : Opening) (h : Journal) → IsEpoch first h → MayReset first h → known_of h ≤ made → ArePublished (effects_at_reset made first h)
published_at_reset made first h is may known = by_one (is_unanswered h) refl
  where
    by_one : (t : Bool) → is_unanswered h ≡ t → ArePublished (effects_with (passed_by (is_unanswered h) made first h) made first h)
    by_one true one = subst (λ (t : Bool). ArePublished (effects_with (passed_by t made first h) made first h)) (sym one) (published_broken made first h is.conducted known (uncut_there first h is may one))
    by_one false all = subst (λ (t : Bool). ArePublished (effects_with (passed_by t made first h) made first h)) (sym all) (published_so_far made first h is.conducted known)

both_published : (xs ys : List EpochEffects) → AllByRecursion ArePublished xs → AllByRecursion ArePublished ys → AllByRecursion ArePublished (xs ++ ys)
both_published [] ys f g = g
both_published (x ∷ xs) ys f g = (f.0, both_published xs ys f.1 g)

closed_published : (blocks : ℕ) (state : State) (es : NewestFirst Closed) → AreClosed blocks state es → AllByRecursion ArePublished (closed_effects blocks state es)
closed_published blocks state [] c = tt
closed_published blocks state (e ∷ es) c =
    let first = opening_behind blocks state es in
    let made = made_at_halt (ticks_made es) e.work in
    both_published (closed_effects blocks state es) (effects_at_reset made first e.journal ∷ []) (closed_published blocks state es c.1)
    (published_at_reset made first e.journal c.0.resetting.epoch c.0.resetting.may (known_made blocks state e es c), tt)

pub epochs_publish : (blocks : ℕ) (state : State) (made : ℕ) (es : Epochs) → AreEpochs blocks state es → known_of (open_journal es) ≤ made → AllByRecursion ArePublished (effects_of blocks state made es)
epochs_publish blocks state made (goes es h) c known =
    let first = opening_behind blocks state es in
    both_published (closed_effects blocks state es) (effects_so_far made first h ∷ []) (closed_published blocks state es c.0) (published_so_far made first h c.1.conducted known, tt)
epochs_publish blocks state made (resets es h w) c known =
    let first = opening_behind blocks state es in
    both_published (closed_effects blocks state es) (effects_at_reset made first h ∷ []) (closed_published blocks state es c.0) (published_at_reset made first h c.1.epoch c.1.may known, tt)

-- ---- what was answered

abbrev replies_of : List EpochEffects → List Reply
replies_of es = flat_map (λ (e : EpochEffects). e.answered) es

with_one : (before : List Reply) (es : List EpochEffects) (e : EpochEffects) → before ≡ replies_of es → before ++ e.answered ≡ replies_of (es ++ e ∷ [])
with_one before es e is =
    ap (λ (rs : List Reply). rs ++ e.answered) is ∙ ap (λ (rs : List Reply). replies_of es ++ rs) (sym (append-nil e.answered)) ∙ sym (flat_map-append (λ (x : EpochEffects). x.answered) es (e ∷ []))

closed_answered : (blocks : ℕ) (state : State) (es : NewestFirst Closed) → AreClosed blocks state es → answered_in (closed_log es) ≡ replies_of (closed_effects blocks state es)
closed_answered blocks state [] c = refl
closed_answered blocks state (e ∷ es) c =
    none_answered (last_line (opening_behind blocks state es) e.journal) (log_behind (closed_log es) e.journal) e.work c.0.resetting.works ∙ answered_on (ticks_made es) (port_log e.journal) (closed_log es)
    ∙ with_one (answered_in (closed_log es)) (closed_effects blocks state es) (effects_at_reset (made_at_halt (ticks_made es) e.work) (opening_behind blocks state es) e.journal) (closed_answered blocks state es c.1)

pub all_answered : (blocks : ℕ) (state : State) (made : ℕ) (es : Epochs) → AreEpochs blocks state es → answered_by es ≡ replies_of (effects_of blocks state made es)
all_answered blocks state made (goes es h) c =
    answered_on (ticks_made es) (port_log h) (closed_log es) ∙ with_one (answered_in (closed_log es)) (closed_effects blocks state es) (effects_so_far made (opening_behind blocks state es) h) (closed_answered blocks state es c.0)
all_answered blocks state made (resets es h w) c =
    none_answered (last_line (opening_behind blocks state es) h) (log_behind (closed_log es) h) w c.1.works ∙ answered_on (ticks_made es) (port_log h) (closed_log es)
    ∙ with_one (answered_in (closed_log es)) (closed_effects blocks state es) (effects_at_reset made (opening_behind blocks state es) h) (closed_answered blocks state es c.0)
