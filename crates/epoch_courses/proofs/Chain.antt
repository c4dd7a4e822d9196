-- Epoch by epoch what a board has done is a course.
use Rattle.std.proofs.Common.{◌≡◌, ℕ, ◌≤◌, Bool, true, cond, List, [], ◌∷◌, ◌++◌, map, refl, sym, ap, ◌∙◌, append_assoc, append-nil, subst}
use Rattle.run_rules.specs.declared.State.{State}
use Rattle.run_rules.specs.Lines.{HasNoLf, whole_lines, onto_line}
use Rattle.run_texts.specs.Courses.{Passed, Follows}
use Rattle.run_texts.specs.Courses.Passed.{a_reset}
use Rattle.run_texts.specs.Points.{opening}
use Rattle.run_texts.specs.Sent.{Sent}
use Rattle.run_texts.specs.Sent.Sent.{a_text, a_stop}
use Rattle.run_texts.specs.SoFar.{LeadsTo}
use Rattle.run_texts.proofs.SoFar.{goes_on_from, leads_on}
use Rattle.step_line.specs.Logs.{NewestFirst}
use Rattle.board_rules.specs.Conduct.{IsFinished}
use Rattle.board_journal.specs.Openings.{Opening}
use Rattle.board_journal.specs.Ports.{taken_in}
use Rattle.board_journal.specs.Steps.{known_of, Journal, port_log, lines_of, open_of}
use Rattle.board_rules.proofs.Closing.{spent}
use Rattle.board_rules.proofs.Lines.{bytes_are}
use Rattle.board_epochs.specs.Epochs.{closed_log, log_behind, Closed, Epochs, AreClosed, AreEpochs, IsEpoch, next_opening, opening_behind, point_of, reset_of, ticks_made}
use Rattle.board_epochs.specs.Epochs.Epochs.{goes, resets}
use Rattle.board_epochs.specs.Resets.{MayReset}
use Rattle.board_epochs.specs.Work.{Work, stage_of}
use Rattle.epoch_courses.specs.Course.{is_marked, with_reset, made_at_halt, open_journal, passed_so_far, passed_at_reset, closed_course, course_of, point_behind, point_at_reset, stands_at}
use Rattle.epoch_courses.specs.Taken.{texts_in, bytes_with, closed_texts, sent_by, bytes_behind, left_by}
use Rattle.epoch_courses.proofs.Epoch.{epoch_leads}
use Rattle.epoch_courses.proofs.Halted.{known_made, marked_there}
use Rattle.epoch_courses.proofs.Resets.{comes_there, next_there, is_reset}
use Rattle.epoch_courses.proofs.Texts.{texts_behind, texts_now, behind_them}
use Rattle.run_texts.proofs.Going.{still_left}

-- what was taken with a reset, line by line
closed_by_lines : (first : Opening) (h : Journal) (w : Work) (before more : List Sent) → IsEpoch first h
    → (before ++ (texts_in (bytes_with h w) ++ a_stop ∷ [])) ++ more ≡ before ++ (map a_text (lines_of h) ++ (texts_in (bytes_behind h ++ taken_in (port_log w)) ++ a_stop ∷ more))
closed_by_lines first h w before more is =
    let left = texts_in (bytes_behind h ++ taken_in (port_log w)) in
    append_assoc before (texts_in (bytes_with h w) ++ a_stop ∷ []) more
    ∙ ap (λ (ss : List Sent). before ++ ss) (append_assoc (texts_in (bytes_with h w)) (a_stop ∷ []) more
    ∙ ap (λ (ss : List Sent). ss ++ a_stop ∷ more) (texts_behind first h (taken_in (port_log w)) is.conducted)
    ∙ append_assoc (map a_text (lines_of h)) left (a_stop ∷ more))

-- an epoch that a reset has ended
closed_one : (made base : ℕ) (first : Opening) (h : Journal) (w : Work) (more : List Sent) → IsEpoch first h → MayReset first h → known_of h ≤ made
    → LeadsTo (point_of first) (map a_text (lines_of h) ++ (texts_in (bytes_behind h ++ taken_in (port_log w)) ++ a_stop ∷ more)) (passed_at_reset made first h ++ a_reset (reset_of base first h w) ∷ [])
    (point_of (next_opening base first h w)) more
closed_one made base first h w more is may known =
    let waiting = whole_lines (bytes_behind h ++ taken_in (port_log w)) in
    let tail : List Sent = map a_text waiting ++ a_stop ∷ more in
    let there = comes_there made first h tail is may known in
    leads_on (point_of first) (point_at_reset made first h) (point_of (next_opening base first h w)) _ tail more (passed_at_reset made first h) (a_reset (reset_of base first h w) ∷ [])
    there.leads
    (is_reset base first h w (point_at_reset made first h) more is may there.found, (sym (next_there base first h w (point_at_reset made first h) there.found), sym (behind_them waiting more)))

-- behind others, which lead so
one_more : (blocks : ℕ) (state : State) (e : Closed) (es : NewestFirst Closed) (more : List Sent) → ((tail : List Sent) → LeadsTo (opening state) (closed_texts es ++ tail) (closed_course blocks state es) (point_of (opening_behind blocks state es)) tail)
    → IsEpoch (opening_behind blocks state es) e.journal → MayReset (opening_behind blocks state es) e.journal → known_of e.journal ≤ made_at_halt (ticks_made es) e.work
    → LeadsTo (opening state) (closed_texts (e ∷ es) ++ more) (closed_course blocks state (e ∷ es)) (point_of (opening_behind blocks state (e ∷ es))) more
one_more blocks state e es more before is may known =
    let first = opening_behind blocks state es in
    let tail : List Sent = map a_text (lines_of e.journal) ++ (texts_in (bytes_behind e.journal ++ taken_in (port_log e.work)) ++ a_stop ∷ more) in
    subst (λ (ss : List Sent). LeadsTo (opening state) ss (closed_course blocks state (e ∷ es)) (point_of (opening_behind blocks state (e ∷ es))) more) (sym (closed_by_lines first e.journal e.work (closed_texts es) more is))
    (leads_on (opening state) (point_of first) (point_of (opening_behind blocks state (e ∷ es))) _ tail more (closed_course blocks state es) (passed_at_reset (made_at_halt (ticks_made es) e.work) first e.journal ++ a_reset (reset_of (ticks_made es) first e.journal e.work) ∷ [])
    (before tail)
    (closed_one (made_at_halt (ticks_made es) e.work) (ticks_made es) first e.journal e.work more is may known))

pub closed_lead : (blocks : ℕ) (state : State) (es : NewestFirst Closed) (more : List Sent) → AreClosed blocks state es → LeadsTo (opening state) (closed_texts es ++ more) (closed_course blocks state es) (point_of (opening_behind blocks state es)) more
closed_lead blocks state [] more c = (refl, refl)
closed_lead blocks state (e ∷ es) more c = one_more blocks state e es more (λ (tail : List Sent). closed_lead blocks state es tail c.1) c.0.resetting.epoch c.0.resetting.may (known_made blocks state e es c)

-- with a reset whose mark is published
pub marked_leads : (blocks : ℕ) (state : State) (es : NewestFirst Closed) (h : Journal) (w : Work) → AreEpochs blocks state (resets es h w) → is_marked (stage_of (log_behind (closed_log es) h) w) ≡ true
    → LeadsTo (opening state) (closed_texts (with_reset es h w)) (closed_course blocks state (with_reset es h w)) (point_of (opening_behind blocks state (with_reset es h w))) []
marked_leads blocks state es h w c marked =
    let e : Closed = record { journal = h; work = w } in
    subst (λ (ss : List Sent). LeadsTo (opening state) ss (closed_course blocks state (with_reset es h w)) (point_of (opening_behind blocks state (with_reset es h w))) []) (append-nil (closed_texts (with_reset es h w)))
    (one_more blocks state e es [] (λ (tail : List Sent). closed_lead blocks state es tail c.0) c.1.epoch c.1.may (marked_there blocks state es h w c.0 c.1 marked).made.known)

pub epochs_lead : (blocks : ℕ) (state : State) (made : ℕ) (es : Epochs) → AreEpochs blocks state es → known_of (open_journal es) ≤ made → LeadsTo (opening state) (sent_by es) (course_of blocks state made es) (stands_at blocks state made es) (left_by es)
epochs_lead blocks state made (goes es h) c known =
    let first = opening_behind blocks state es in
    let tail : List Sent = map a_text (lines_of h) ++ texts_in (bytes_behind h) in
    subst (λ (ss : List Sent). LeadsTo (opening state) (closed_texts es ++ ss) (course_of blocks state made (goes es h)) (point_behind made first h) (texts_in (bytes_behind h))) (sym (texts_now first h c.1.conducted))
    (leads_on (opening state) (point_of first) (point_behind made first h) _ tail (texts_in (bytes_behind h)) (closed_course blocks state es) (passed_so_far made first h)
    (closed_lead blocks state es tail c.0) (epoch_leads made first h (texts_in (bytes_behind h)) c.1.conducted known))
epochs_lead blocks state made (resets es h w) c known =
    let first = opening_behind blocks state es in
    let left = texts_in (bytes_behind h ++ taken_in (port_log w)) in
    let tail : List Sent = map a_text (lines_of h) ++ left in
    subst (λ (ss : List Sent). LeadsTo (opening state) (closed_texts es ++ ss) (course_of blocks state made (resets es h w)) (point_at_reset made first h) left) (sym (texts_behind first h (taken_in (port_log w)) c.1.epoch.conducted))
    (leads_on (opening state) (point_of first) (point_at_reset made first h) _ tail left (closed_course blocks state es) (passed_at_reset made first h)
    (closed_lead blocks state es tail c.0) (comes_there made first h left c.1.epoch c.1.may known).leads)

-- ---- a run that is closed

no_lines : (xs : List ℕ) → HasNoLf xs → whole_lines xs ≡ []
no_lines [] none = refl
no_lines (c ∷ cs) none = rw none.0 (ap (onto_line c) (no_lines cs none.1))

pub none_left : (first : Opening) (h : Journal) → IsEpoch first h → IsFinished first h → texts_in (bytes_behind h) ≡ []
none_left first h is over =
    let done = spent first h is.conducted over in
    ap (λ (whole : Bool). texts_in (open_of h ++ cond whole (10 ∷ []) [])) done.whole ∙ ap texts_in (append-nil (open_of h)) ∙ ap (λ (ls : List (List ℕ)). map a_text ls) (no_lines (open_of h) (bytes_are first h is.conducted).partial)

pub epochs_follow : (blocks : ℕ) (state : State) (made : ℕ) (es : NewestFirst Closed) (h : Journal) → AreEpochs blocks state (goes es h) → IsFinished (opening_behind blocks state es) h → known_of h ≤ made
    → Follows (opening state) (sent_by (goes es h)) (course_of blocks state made (goes es h)) (point_behind made (opening_behind blocks state es) h)
epochs_follow blocks state made es h c over known =
    let first = opening_behind blocks state es in
    let leads : LeadsTo (opening state) (sent_by (goes es h)) (course_of blocks state made (goes es h)) (point_behind made first h) [] =
    subst (λ (ss : List Sent). LeadsTo (opening state) (sent_by (goes es h)) (course_of blocks state made (goes es h)) (point_behind made first h) ss) (none_left first h c.1 over) (epochs_lead blocks state made (goes es h) c known) in
    subst (λ (ps : List Passed). Follows (opening state) (sent_by (goes es h)) ps (point_behind made first h)) (append-nil (course_of blocks state made (goes es h)))
    (goes_on_from (opening state) (point_behind made first h) (point_behind made first h) (sent_by (goes es h)) [] (course_of blocks state made (goes es h)) [] leads (refl, still_left (point_behind made first h) refl))
