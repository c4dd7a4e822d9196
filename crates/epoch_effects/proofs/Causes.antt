-- Each cut comes behind a jog.
use Rattle.std.proofs.Common.{◌≡◌, ℕ, ◌≤◌, Bool, true, false, cond, List, [], ◌∷◌, ◌++◌, refl, sym, ap, ◌∙◌, subst}
use Rattle.flight.specs.Places.{end_from}
use Rattle.run_rules.specs.declared.State.{State}
use Rattle.run_rules.specs.Outcomes.{jogged_behind}
use Rattle.run_texts.specs.Besides.{CutsHaveCauses}
use Rattle.run_texts.specs.Courses.{Passed, behind_cut, behind_the_reset}
use Rattle.run_texts.specs.Courses.Passed.{a_line, a_broken, a_cut, a_reset}
use Rattle.run_texts.specs.Points.{Point, opening, behind_line, behind_broken}
use Rattle.run_texts.specs.Sent.{Sent, behind_reset}
use Rattle.run_texts.specs.Sent.Sent.{a_text, a_stop}
use Rattle.run_texts.specs.SoFar.{LeadsTo}
use Rattle.step_line.specs.Logs.{NewestFirst}
use Rattle.units.specs.declared.Steps3.{Steps3}
use Rattle.board_rules.specs.Conduct.{Conducted}
use Rattle.board_journal.specs.Openings.{Opening}
use Rattle.board_journal.specs.Steps.{Journal, given_of, known_of}
use Rattle.board_journal.specs.Steps.Step.{began, cut}
use Rattle.board_rules.specs.Turns.{has_jogged}
use Rattle.board_rules.proofs.Jogging.{cancel_is_jog}
use Rattle.board_epochs.specs.Epochs.{Closed, Epochs, AreClosed, AreEpochs, IsEpoch, opening_behind, reset_of, ticks_made}
use Rattle.board_epochs.specs.Epochs.Epochs.{goes, resets}
use Rattle.board_epochs.specs.Resets.{MayReset}
use Rattle.epoch_courses.specs.Course.{is_made, is_unanswered, passed_by, passed_so_far, passed_at_reset, made_at_halt, closed_course, course_of, open_journal, stands_at}
use Rattle.epoch_courses.specs.Taken.{sent_by, left_by}
use Rattle.epoch_courses.proofs.Broken.{IsUncut}
use Rattle.epoch_courses.proofs.Chain.{epochs_lead}
use Rattle.epoch_courses.proofs.Uncut.{uncut_there}

-- ---- by what was passed alone

-- whether the last that was accepted of G-code and jogs is a jog
abbrev jog_behind : Bool → List Passed → Bool
jog_behind was [] = was
jog_behind was (a_line o ∷ ps) = jog_behind (jogged_behind o.kind was) ps
jog_behind was (a_broken o ∷ ps) = jog_behind was ps
jog_behind was (a_cut k at ∷ ps) = jog_behind was ps
jog_behind was (a_reset r ∷ ps) = jog_behind false ps

-- it is at each cut
abbrev HaveJogs : Bool → List Passed → Type 0
HaveJogs was [] = Unit {0}
HaveJogs was (a_line o ∷ ps) = HaveJogs (jogged_behind o.kind was) ps
HaveJogs was (a_broken o ∷ ps) = HaveJogs was ps
HaveJogs was (a_cut k at ∷ ps) = (was ≡ true) × HaveJogs was ps
HaveJogs was (a_reset r ∷ ps) = HaveJogs false ps

jogs_on : (was : Bool) (ps qs : List Passed) → HaveJogs was ps → HaveJogs (jog_behind was ps) qs → HaveJogs was (ps ++ qs)
jogs_on was [] qs f g = g
jogs_on was (a_line o ∷ ps) qs f g = jogs_on (jogged_behind o.kind was) ps qs f g
jogs_on was (a_broken o ∷ ps) qs f g = jogs_on was ps qs f g
jogs_on was (a_cut k at ∷ ps) qs f g = (f.0, jogs_on was ps qs f.1 g)
jogs_on was (a_reset r ∷ ps) qs f g = jogs_on false ps qs f g

behind_on : (was : Bool) (ps qs : List Passed) → jog_behind was (ps ++ qs) ≡ jog_behind (jog_behind was ps) qs
behind_on was [] qs = refl
behind_on was (a_line o ∷ ps) qs = behind_on (jogged_behind o.kind was) ps qs
behind_on was (a_broken o ∷ ps) qs = behind_on was ps qs
behind_on was (a_cut k at ∷ ps) qs = behind_on was ps qs
behind_on was (a_reset r ∷ ps) qs = behind_on false ps qs

-- a course whose cuts have jogs has causes
causes_of : (p last : Point) (sent rest : List Sent) (ps : List Passed) → LeadsTo p sent ps last rest → HaveJogs p.before.jogged ps → CutsHaveCauses p sent ps
causes_of p last sent rest [] leads jogs = tt
causes_of p last sent rest (a_cut k at ∷ ps) leads jogs = (jogs.0, causes_of (behind_cut at p) last sent rest ps leads.1 jogs.1)
causes_of p last sent rest (a_reset r ∷ ps) leads jogs = causes_of (behind_the_reset r p) last (behind_reset sent) rest ps leads.1 jogs
causes_of p last (a_text line ∷ sent) rest (a_line o ∷ ps) leads jogs = causes_of (behind_line p line o) last sent rest ps leads.1 jogs
causes_of p last (a_text line ∷ sent) rest (a_broken o ∷ ps) leads jogs = causes_of (behind_broken p o) last sent rest ps leads.1 jogs
causes_of p last (a_stop ∷ sent) rest (a_line o ∷ ps) leads jogs = absurd leads
causes_of p last (a_stop ∷ sent) rest (a_broken o ∷ ps) leads jogs = absurd leads
causes_of p last [] rest (a_line o ∷ ps) leads jogs = absurd leads
causes_of p last [] rest (a_broken o ∷ ps) leads jogs = absurd leads

-- ---- of a board

cut_behind : (t : Bool) (was : Bool) (k : ℕ) (at : Steps3) → jog_behind was (cond t (a_cut k at ∷ []) []) ≡ was
cut_behind true was k at = refl
cut_behind false was k at = refl

jogged_so : (made : ℕ) (first : Opening) (h : Journal) → jog_behind false (passed_by false made first h) ≡ has_jogged h
jogged_so made first [] = refl
jogged_so made first (began o ∷ h) = behind_on false (passed_by false made first h) (a_line o ∷ []) ∙ ap (jogged_behind o.kind) (jogged_so made first h)
jogged_so made first (cut k ∷ h) =
    behind_on false (passed_by false made first h) (cond (is_made made h) (a_cut k (end_from first.place (given_of h)) ∷ []) [])
    ∙ cut_behind (is_made made h) (jog_behind false (passed_by false made first h)) k (end_from first.place (given_of h)) ∙ jogged_so made first h
jogged_so made first (_ ∷ h) = jogged_so made first h

cut_jogs : (t was : Bool) (k : ℕ) (at : Steps3) → was ≡ true → HaveJogs was (cond t (a_cut k at ∷ []) [])
cut_jogs true was k at is = (is, tt)
cut_jogs false was k at is = tt

pub jogs_passed : (made : ℕ) (first : Opening) (h : Journal) → Conducted first h → HaveJogs false (passed_by false made first h)
jogs_passed made first [] c = tt
jogs_passed made first (began o ∷ h) c = jogs_on false (passed_by false made first h) (a_line o ∷ []) (jogs_passed made first h c.1) tt
jogs_passed made first (cut k ∷ h) c =
    jogs_on false (passed_by false made first h) (cond (is_made made h) (a_cut k (end_from first.place (given_of h)) ∷ []) []) (jogs_passed made first h c.1)
    (cut_jogs (is_made made h) (jog_behind false (passed_by false made first h)) k (end_from first.place (given_of h)) (jogged_so made first h ∙ cancel_is_jog first h c.1 c.0.cancelled))
jogs_passed made first (_ ∷ h) c = jogs_passed made first h c.1

jogs_broken : (made : ℕ) (first : Opening) (h : Journal) → Conducted first h → IsUncut h → HaveJogs false (passed_by true made first h)
jogs_broken made first [] c uncut = absurd uncut
jogs_broken made first (began o ∷ h) c uncut = jogs_on false (passed_by false made first h) (a_broken o ∷ []) (jogs_passed made first h c.1) tt
jogs_broken made first (cut k ∷ h) c uncut = absurd uncut
jogs_broken made first (_ ∷ h) c uncut = jogs_broken made first h c.1 uncut

jogs_at_reset : (made : ℕ) (first : Opening) (h : Journal) → IsEpoch first h → MayReset first h → HaveJogs false (passed_at_reset made first h)
jogs_at_reset made first h is may = by_one (is_unanswered h) refl
  where
    by_one : (t : Bool) → is_unanswered h ≡ t → HaveJogs false (passed_by (is_unanswered h) made first h)
    by_one true one = subst (λ (t : Bool). HaveJogs false (passed_by t made first h)) (sym one) (jogs_broken made first h is.conducted (uncut_there first h is may one))
    by_one false all = subst (λ (t : Bool). HaveJogs false (passed_by t made first h)) (sym all) (jogs_passed made first h is.conducted)

-- ---- of all epochs

behind_closed : (blocks : ℕ) (state : State) (es : NewestFirst Closed) → jog_behind false (closed_course blocks state es) ≡ false
behind_closed blocks state [] = refl
behind_closed blocks state (e ∷ es) =
    let first = opening_behind blocks state es in
    let passed = passed_at_reset (made_at_halt (ticks_made es) e.work) first e.journal in
    let r = reset_of (ticks_made es) first e.journal e.work in
    behind_on false (closed_course blocks state es) (passed ++ a_reset r ∷ []) ∙ behind_on (jog_behind false (closed_course blocks state es)) passed (a_reset r ∷ [])

jogs_then : (blocks : ℕ) (state : State) (es : NewestFirst Closed) (ps : List Passed) → HaveJogs false (closed_course blocks state es) → HaveJogs false ps → HaveJogs false (closed_course blocks state es ++ ps)
jogs_then blocks state es ps f g = jogs_on false (closed_course blocks state es) ps f (subst (λ (t : Bool). HaveJogs t ps) (sym (behind_closed blocks state es)) g)

jogs_closed : (blocks : ℕ) (state : State) (es : NewestFirst Closed) → AreClosed blocks state es → HaveJogs false (closed_course blocks state es)
jogs_closed blocks state [] c = tt
jogs_closed blocks state (e ∷ es) c =
    let first = opening_behind blocks state es in
    let passed = passed_at_reset (made_at_halt (ticks_made es) e.work) first e.journal in
    let r = reset_of (ticks_made es) first e.journal e.work in
    jogs_then blocks state es (passed ++ a_reset r ∷ []) (jogs_closed blocks state es c.1)
    (jogs_on false passed (a_reset r ∷ []) (jogs_at_reset (made_at_halt (ticks_made es) e.work) first e.journal c.0.resetting.epoch c.0.resetting.may) tt)

jogs_all : (blocks : ℕ) (state : State) (made : ℕ) (es : Epochs) → AreEpochs blocks state es → HaveJogs false (course_of blocks state made es)
jogs_all blocks state made (goes es h) c = jogs_then blocks state es (passed_so_far made (opening_behind blocks state es) h) (jogs_closed blocks state es c.0) (jogs_passed made (opening_behind blocks state es) h c.1.conducted)
jogs_all blocks state made (resets es h w) c = jogs_then blocks state es (passed_at_reset made (opening_behind blocks state es) h) (jogs_closed blocks state es c.0) (jogs_at_reset made (opening_behind blocks state es) h c.1.epoch c.1.may)

pub cuts_caused : (blocks : ℕ) (state : State) (made : ℕ) (es : Epochs) → AreEpochs blocks state es → known_of (open_journal es) ≤ made → CutsHaveCauses (opening state) (sent_by es) (course_of blocks state made es)
cuts_caused blocks state made es c known = causes_of (opening state) (stands_at blocks state made es) (sent_by es) (left_by es) (course_of blocks state made es) (epochs_lead blocks state made es c known) (jogs_all blocks state made es c)
