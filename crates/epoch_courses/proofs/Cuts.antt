-- A course has no more cuts than words were taken that may cut jogs.
use Rattle.std.proofs.Common.{◌≡◌, ℕ, ◌+◌, ◌≤◌, Bool, true, false, cond, List, [], ◌∷◌, ◌++◌, length, refl, arith}
use Rattle.flight.specs.Places.{end_from}
use Rattle.run_rules.specs.declared.State.{State}
use Rattle.run_rules.specs.Work.{Outcome}
use Rattle.run_texts.specs.Courses.{Passed, cuts_in}
use Rattle.run_texts.specs.Courses.Passed.{a_line, a_broken, a_cut, a_reset}
use Rattle.step_line.specs.Logs.{NewestFirst}
use Rattle.units.specs.declared.Steps3.{Steps3}
use Rattle.board_rules.specs.Conduct.{Conducted}
use Rattle.board_rules.specs.Cuts.{parts_of}
use Rattle.board_journal.specs.Openings.{Opening}
use Rattle.board_journal.specs.Ports.{BoardLog, known_in, asks_cancel, cancel_words_in}
use Rattle.board_journal.specs.Ports.PortStep.{took_exec}
use Rattle.board_journal.specs.Steps.{Journal, port_log, given_of}
use Rattle.board_journal.specs.Steps.Step.{began, cut}
use Rattle.board_rules.proofs.Cancels.{few_cuts}
use Rattle.board_epochs.specs.Epochs.{Closed, Epochs, AreClosed, AreEpochs, closed_log, log_on, log_behind, log_of, opening_behind, reset_of, ticks_made}
use Rattle.board_epochs.specs.Epochs.Epochs.{goes, resets}
use Rattle.board_epochs.specs.Work.{Work}
use Rattle.epoch_courses.specs.Course.{is_made, with_reset, is_unanswered, passed_by, passed_so_far, passed_at_reset, made_at_halt, closed_course, course_of}

cuts_on : (ps qs : List Passed) → cuts_in (ps ++ qs) ≡ cuts_in ps + cuts_in qs
cuts_on [] qs = omega arith
cuts_on (a_cut k at ∷ ps) qs = let e = cuts_on ps qs in omega (arith, e)
cuts_on (_ ∷ ps) qs = cuts_on ps qs

no_cut : (broken : Bool) (o : Outcome) → cuts_in (cond broken (a_broken o) (a_line o) ∷ []) ≡ 0
no_cut true o = refl
no_cut false o = refl

one_cut : (t : Bool) (k : ℕ) (at : Steps3) → cuts_in (cond t (a_cut k at ∷ []) []) ≤ 1
one_cut true k at = omega arith
one_cut false k at = omega arith

-- ---- of an epoch

pub passed_cuts : (broken : Bool) (made : ℕ) (first : Opening) (h : Journal) → cuts_in (passed_by broken made first h) ≤ length (parts_of first h)
passed_cuts broken made first [] = omega arith
passed_cuts broken made first (began o ∷ h) =
    let more = cuts_on (passed_by false made first h) (cond broken (a_broken o) (a_line o) ∷ []) in let none = no_cut broken o in let few = passed_cuts false made first h in omega (arith, more, none, few)
passed_cuts broken made first (cut k ∷ h) =
    let at = end_from first.place (given_of h) in
    let more = cuts_on (passed_by broken made first h) (cond (is_made made h) (a_cut k at ∷ []) []) in let one = one_cut (is_made made h) k at in let few = passed_cuts broken made first h in omega (arith, more, one, few)
passed_cuts broken made first (_ ∷ h) = passed_cuts broken made first h

-- ---- words, over all epochs

counted_on : (asked : Bool) (m n k : ℕ) → m ≡ n + k → cond asked (m + 1) m ≡ n + cond asked (k + 1) k
counted_on true m n k e = omega (arith, e)
counted_on false m n k e = e

words_on : (base : ℕ) (l before : BoardLog) → cancel_words_in (log_on base l ++ before) ≡ cancel_words_in before + cancel_words_in l
words_on base [] before = omega arith
words_on base (took_exec word ∷ l) before = counted_on (asks_cancel word) _ _ _ (words_on base l before)
words_on base (_ ∷ l) before = words_on base l before

no_fewer : (asked : Bool) (m n : ℕ) → m ≤ n → m ≤ cond asked (n + 1) n
no_fewer true m n few = omega (arith, few)
no_fewer false m n few = few

words_more : (l before : BoardLog) → cancel_words_in before ≤ cancel_words_in (l ++ before)
words_more [] before = omega arith
words_more (took_exec word ∷ l) before = no_fewer (asks_cancel word) _ _ (words_more l before)
words_more (_ ∷ l) before = words_more l before

-- ---- all epochs

epoch_cuts : (broken : Bool) (made : ℕ) (first : Opening) (h : Journal) (before : BoardLog) (was : ℕ) → Conducted first h → was ≤ cancel_words_in before → was + cuts_in (passed_by broken made first h) ≤ cancel_words_in (log_behind before h)
epoch_cuts broken made first h before was c low =
    let few = passed_cuts broken made first h in let cuts = few_cuts first h c in let words = words_on (known_in before) (port_log h) before in omega (arith, low, few, cuts, words)

one_more : (blocks : ℕ) (state : State) (e : Closed) (es : NewestFirst Closed) → Conducted (opening_behind blocks state es) e.journal → cuts_in (closed_course blocks state es) ≤ cancel_words_in (closed_log es) → cuts_in (closed_course blocks state (e ∷ es)) ≤ cancel_words_in (closed_log (e ∷ es))
one_more blocks state e es c was =
    let first = opening_behind blocks state es in
    let made = made_at_halt (ticks_made es) e.work in
    let passed = passed_at_reset made first e.journal in
    let reset : List Passed = a_reset (reset_of (ticks_made es) first e.journal e.work) ∷ [] in
    let before = log_behind (closed_log es) e.journal in
    let low = epoch_cuts (is_unanswered e.journal) made first e.journal (closed_log es) (cuts_in (closed_course blocks state es)) c was in
    let more = words_more (port_log e.work) before in
    let all = cuts_on (closed_course blocks state es) (passed ++ reset) in
    let both = cuts_on passed reset in
    omega (arith, low, more, all, both)

closed_cuts : (blocks : ℕ) (state : State) (es : NewestFirst Closed) → AreClosed blocks state es → cuts_in (closed_course blocks state es) ≤ cancel_words_in (closed_log es)
closed_cuts blocks state [] c = omega arith
closed_cuts blocks state (e ∷ es) c = one_more blocks state e es c.0.resetting.epoch.conducted (closed_cuts blocks state es c.1)

pub marked_cuts : (blocks : ℕ) (state : State) (es : NewestFirst Closed) (h : Journal) (w : Work) → AreEpochs blocks state (resets es h w) → cuts_in (closed_course blocks state (with_reset es h w)) ≤ cancel_words_in (log_of (resets es h w))
marked_cuts blocks state es h w c = one_more blocks state (record { journal = h; work = w }) es c.1.epoch.conducted (closed_cuts blocks state es c.0)

pub course_cuts : (blocks : ℕ) (state : State) (made : ℕ) (es : Epochs) → AreEpochs blocks state es → cuts_in (course_of blocks state made es) ≤ cancel_words_in (log_of es)
course_cuts blocks state made (goes es h) c =
    let first = opening_behind blocks state es in
    let low = epoch_cuts false made first h (closed_log es) (cuts_in (closed_course blocks state es)) c.1.conducted (closed_cuts blocks state es c.0) in
    let all = cuts_on (closed_course blocks state es) (passed_so_far made first h) in
    omega (arith, low, all)
course_cuts blocks state made (resets es h w) c =
    let first = opening_behind blocks state es in
    let low = epoch_cuts (is_unanswered h) made first h (closed_log es) (cuts_in (closed_course blocks state es)) c.1.epoch.conducted (closed_cuts blocks state es c.0) in
    let more = words_more (port_log w) (log_behind (closed_log es) h) in
    let all = cuts_on (closed_course blocks state es) (passed_at_reset made first h) in
    omega (arith, low, more, all)
