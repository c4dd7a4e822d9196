-- What closed epochs have made, taken and loaded in all.
use Rattle.std.proofs.Common.{◌≡◌, ◌⊎◌, inl, inr, ℕ, ◌+◌, ◌*◌, ◌^◌, ◌≤◌, ◌<◌, Bool, true, false, cond, List, [], ◌∷◌, ◌++◌, length, length-append, reverse, refl, sym, ap, ◌∙◌, subst, append-nil, arith}
use Rattle.std.proofs.lemmas.List.{length-reverse}
use Rattle.motion_ring.proofs.Ticks.{together_reversed, few_pieces}
use Rattle.motion_ring.specs.Sides as ring
use Rattle.motion_ring.specs.declared.lists.Sent.{Sent}
use Rattle.run_rules.specs.declared.State.{State}
use Rattle.serial_ring.specs.Logs.{greeted_in, has_greeted, next_mark}
use Rattle.serial_ring.specs.Marks.{Mark as LinkMark, last_of, start}
use Rattle.serial_ring.specs.declared.view.LinkStep.{LinkStep}
use Rattle.step_line.specs.Finishing.{ticks_together}
use Rattle.step_line.specs.Logs.{NewestFirst}
use Rattle.step_line.specs.Ordering.{has_ended}
use Rattle.step_line.specs.declared.Piece.{Piece}
use Rattle.status_report.specs.declared.Reply.{Reply}
use Rattle.board_rules.specs.Conduct.{Conducted}
use Rattle.board_journal.specs.Openings.{Opening}
use Rattle.board_journal.specs.Ports.{BoardLog, asks_report, taken_in, answered_in, reports_in, published_in, known_in, link_steps, sent_in}
use Rattle.board_journal.specs.Ports.PortStep.{took, found_mark, answered, reported, took_exec, found_halt}
use Rattle.board_journal.specs.Steps.{Journal, port_log, taken_of, answered_of, published_of, given_of, planned_of, hand_of}
use Rattle.board_journal.specs.Steps.Step.{at_port, turned}
use Rattle.board_rules.proofs.Ending.{NoEnds, no_ends_back, not_ended, published_in_turn, planned_none}
use Rattle.board_rules.proofs.Given.{published_within}
use Rattle.board_rules.proofs.Keeping.{hand_is}
use Rattle.board_rules.proofs.Limits.{given_by_lines, lines_in_bytes, answered_by_lines}
use Rattle.board_rules.proofs.Unstopped.{NeverStops, journals_never_stop}
use Rattle.board_epochs.specs.Epochs.{Closed, AreClosed, IsClosed, IsBounded, closed_log, log_behind, opening_behind, last_line}
use Rattle.board_epochs.specs.Bounds.{loaded_mark, AreMarked, IsFew}
use Rattle.board_epochs.specs.Resets.{MayReset}
use Rattle.board_epochs.specs.Work.{Work, Works, Stage, MayWorkAt, stage_of, worked_in, halted_in}
use Rattle.board_epochs.specs.Work.Stage.{awaits_halt}
use Rattle.board_epochs.proofs.Greeted.{was_greeted, greeted_with}
use Rattle.board_epochs.proofs.Marking.{loaded_there}
use Rattle.board_epochs.proofs.Chaining.{begins_behind}
use Rattle.board_epochs.proofs.Onto.{Begins, sent_on, steps_on, taken_on, answered_on, reports_on}
use Rattle.board_epochs.proofs.Seam.{sent_own, ticks_behind}
use Rattle.board_epochs.proofs.Prompting.{unended}
use Rattle.board_epochs.proofs.Working.{all_of, never, works_end, holds, Holds}

-- the open epoch keeps to its rules, promptly or not, and the port gives so much at most
abbrev pub AreConducted : (blocks : ℕ) → State → NewestFirst Closed → Journal → Type 0
AreConducted blocks state es h = AreClosed blocks state es × Conducted (opening_behind blocks state es) h × IsBounded (log_behind (closed_log es) h)

-- ---- the marks

answered_none : (number : ℕ) (before : BoardLog) (w : Work) → Works number before w → has_greeted (link_steps (all_of before w)) ≡ has_greeted (link_steps before)
answered_none number before [] c = refl
answered_none number before (at_port (answered r) ∷ w) c = absurd (never number (all_of before w) (stage_of before w) (answered r) tt c.0)
answered_none number before (at_port (reported r) ∷ w) c = absurd (never number (all_of before w) (stage_of before w) (reported r) tt c.0)
answered_none number before (at_port (took b) ∷ w) c = answered_none number before w c.2
answered_none number before (at_port (found_mark m bytes) ∷ w) c = answered_none number before w c.2
answered_none number before (at_port e ∷ w) c = answered_none number before w c.2
answered_none number before (turned t ∷ w) c = answered_none number before w c.2
answered_none number before (_ ∷ w) c = absurd c.0

-- a first epoch has no mark, another has that of the reset before it
abbrev pub Marked : BoardLog → ℕ → Type 0
Marked l resets = ((resets ≡ 0) × (l ≡ [])) ⊎ AreMarked l resets

pub worked_then : (first : Opening) (h : Journal) (before : BoardLog) → Conducted first h → MayReset first h → last_of (greeted_in (link_steps (log_behind before h))) ≡ next_mark (link_steps before)
worked_then first h before c may =
    ap (λ (ss : List LinkStep). last_of (greeted_in ss)) (steps_on (known_in before) (port_log h) before) ∙ (greeted_with first h (link_steps before) c (was_greeted first h c may)).0

greeted_then : (first : Opening) (h : Journal) (before : BoardLog) → Conducted first h → MayReset first h → has_greeted (link_steps (log_behind before h)) ≡ true
greeted_then first h before c may = ap has_greeted (steps_on (known_in before) (port_log h) before) ∙ (greeted_with first h (link_steps before) c (was_greeted first h c may)).1

next_above : (before : BoardLog) (n : ℕ) → Marked before n → n ≤ (next_mark (link_steps before)).0
next_above before n (inl none) = let z = none.0 in omega arith
next_above before n (inr m) =
    let e : (next_mark (link_steps before)).0 ≡ (loaded_mark before).0 = ap (λ (t : Bool). (cond t (loaded_mark before) start).0) m.greeted in
    let many = m.many in omega (arith, e, many)

marks_on : (first : Opening) (before : BoardLog) (e : Closed) (n : ℕ) → IsClosed first before e → Marked before n → AreMarked (all_of (log_behind before e.journal) e.work) (n + 1)
marks_on first before e n is m =
    let lb = log_behind before e.journal in
    let l = all_of lb e.work in
    let c = is.resetting.epoch.conducted in
    let h = loaded_there (last_line first e.journal) lb e.work is.resetting.works is.worked.done in
    let was : worked_in lb ≡ (next_mark (link_steps before)).0 = ap (λ (k : LinkMark). k.0) (worked_then first e.journal before c is.resetting.may) in
    let same : worked_in l ≡ worked_in lb = ap (λ (ms : List LinkMark). (last_of ms).0) h.0 in
    let later = h.1.later in let few = h.1.few in let bytes = h.1.bytes in
    let above = next_above before n m in
    record {
      many = omega (arith, was, later, above);
      few = few;
      later = omega (arith, same, later);
      bytes = omega (arith, bytes);
      greeted = answered_none (last_line first e.journal) lb e.work is.resetting.works ∙ greeted_then first e.journal before c is.resetting.may;
    }

pub marked_behind : (blocks : ℕ) (state : State) (es : NewestFirst Closed) → AreClosed blocks state es → Marked (closed_log es) (length es)
marked_behind blocks state [] c = inl (refl, refl)
marked_behind blocks state (e ∷ es) c =
    let is = marks_on (opening_behind blocks state es) (closed_log es) e (length es) c.0 (marked_behind blocks state es c.1) in
    let one : length es + 1 ≡ length (e ∷ es) = omega arith in
    inr (subst (AreMarked (closed_log (e ∷ es))) one is)

-- ---- ticks, pieces and bytes

pub more_taken : (l before : BoardLog) → length (taken_in before) ≤ length (taken_in (l ++ before))
more_taken [] before = omega arith
more_taken (took b ∷ l) before = let m = more_taken l before in let e = length-append (taken_in (l ++ before)) (b ∷ []) in omega (arith, m, e)
more_taken (_ ∷ l) before = more_taken l before

-- no more ticks are done at the halt than were published
pub halted_below : (number : ℕ) (before : BoardLog) (w : Work) → Works number before w → halted_in w ≤ ring.ticks_published (sent_in before)
halted_below number before [] c = omega arith
halted_below number before (at_port (found_halt done) ∷ w) c = by_stage (stage_of before w) c.0 (holds number before w c.2)
  where
    by_stage : (stage : Stage) → MayWorkAt number (all_of before w) (found_halt done) stage → Holds number before (all_of before w) (halted_in w) stage → done ≤ ring.ticks_published (sent_in before)
    by_stage (awaits_halt n) may h = let b = may.below in let e = ap ring.ticks_published h in omega (arith, b, e)
    by_stage stage may h = absurd may
halted_below number before (at_port e ∷ w) c = halted_below number before w c.2
halted_below number before (turned t ∷ w) c = halted_below number before w c.2
halted_below number before (_ ∷ w) c = absurd c.0

-- the ticks of an epoch
pub own_ticks : (l : BoardLog) → NeverStops l → ring.ticks_published (sent_in l) ≡ ticks_together (published_in l)
own_ticks l n =
    let e = ap ring.ticks_published (sent_own l n) in let a = ap ticks_together (append-nil (reverse (published_in l))) in let b = together_reversed (published_in l) in omega (arith, e, a, b)

pub ticks_bounded : (first : Opening) (h : Journal) → Conducted first h → ticks_together (published_of h) ≤ 400000006 * length (taken_of h)
ticks_bounded first h c =
    let a = published_within first h c in let b = given_by_lines first h c in let d = lines_in_bytes first h c in omega (arith, a, b, d)

front_none : (ps qs : List Piece) → NoEnds (ps ++ qs) → NoEnds ps
front_none [] qs none = tt
front_none (p ∷ ps) qs none = (none.0, front_none ps qs none.1)

pub none_ended : (first : Opening) (h : Journal) → Conducted first h → given_of h ≡ planned_of h → NoEnds (published_of h)
none_ended first h c un = front_none (published_of h) (hand_of h) (subst NoEnds (sym un ∙ hand_is first h c) (planned_none first h c))

-- and its pieces, until the end is made
pub pieces_bounded : (first : Opening) (h : Journal) → Conducted first h → has_ended (reverse (published_of h)) ≡ false → length (published_of h) ≤ 400000006 * length (taken_of h)
pieces_bounded first h c going =
    let m = few_pieces (reverse (published_of h)) (published_in_turn first h c) going in
    let a = together_reversed (published_of h) in let b = length-reverse (published_of h) in let d = ticks_bounded first h c in omega (arith, m, a, b, d)

pub pieces_behind : (first : Opening) (before : BoardLog) (h : Journal) → Conducted first h → length (ring.published_in (sent_in (log_behind before h))) ≡ length (published_of h) + length (ring.published_in (sent_in before))
pieces_behind first before h c =
    let s = sent_in before in
    let e = ap (λ (x : Sent). length (ring.published_in x)) (sent_on (known_in before) (port_log h) before (journals_never_stop first h c)) in
    let a = length-append (reverse (published_of h) ++ s.since) s.older in let b = length-append (reverse (published_of h)) s.since in
    let d = length-append s.since s.older in let f = length-reverse (published_of h) in omega (arith, e, a, b, d, f)

pub taken_behind : (before : BoardLog) (h : Journal) → length (taken_in (log_behind before h)) ≡ length (taken_in before) + length (taken_of h)
taken_behind before h = ap (λ (bs : List ℕ). length bs) (taken_on (known_in before) (port_log h) before) ∙ length-append (taken_in before) (taken_of h)

pub answered_behind : (before : BoardLog) (h : Journal) → length (answered_in (log_behind before h)) ≡ length (answered_in before) + length (answered_of h)
answered_behind before h = ap (λ (rs : List Reply). length rs) (answered_on (known_in before) (port_log h) before) ∙ length-append (answered_in before) (answered_of h)

-- no reply is answered by a reset's work
pub no_replies : (number : ℕ) (before : BoardLog) (w : Work) → Works number before w → answered_in (all_of before w) ≡ answered_in before
no_replies number before [] c = refl
no_replies number before (at_port (answered r) ∷ w) c = absurd (never number (all_of before w) (stage_of before w) (answered r) tt c.0)
no_replies number before (at_port (reported r) ∷ w) c = absurd (never number (all_of before w) (stage_of before w) (reported r) tt c.0)
no_replies number before (at_port e ∷ w) c = no_replies number before w c.2
no_replies number before (turned t ∷ w) c = no_replies number before w c.2
no_replies number before (_ ∷ w) c = absurd c.0

one_more : (asked : Bool) (n : ℕ) → n ≤ cond asked (n + 1) n
one_more true n = omega arith
one_more false n = omega arith

more_reports : (l before : BoardLog) → reports_in before ≤ reports_in (l ++ before)
more_reports [] before = omega arith
more_reports (took_exec word ∷ l) before = let m = more_reports l before in let e = one_more (asks_report word) (reports_in (l ++ before)) in omega (arith, m, e)
more_reports (_ ∷ l) before = more_reports l before

few_on : (first : Opening) (before : BoardLog) (e : Closed) (n : ℕ) → IsClosed first before e → Begins before → IsFew before n → IsFew (all_of (log_behind before e.journal) e.work) (n + 1)
few_on first before e n is b m =
    let h = e.journal in
    let lb = log_behind before h in
    let c = is.resetting.epoch.conducted in
    let number = last_line first h in
    let stops = journals_never_stop first h c in
    let end = works_end number lb e.work is.resetting.works is.worked.done in
    let halted = halted_below number lb e.work is.resetting.works in
    let ticks = ticks_behind before (port_log h) b stops in
    let own = own_ticks (port_log h) stops in
    let bound = ticks_bounded first h c in
    let taken = taken_behind before h in
    let more = more_taken (port_log e.work) lb in
    let was = m.ticks in let known = end.1 in
    let pieces = pieces_behind first before h c in
    let few = pieces_bounded first h c (not_ended (reverse (published_of h)) (no_ends_back (published_of h) (none_ended first h c (unended first h is.resetting.epoch is.resetting.may)))) in
    let all = ap (λ (x : Sent). length (ring.published_in x)) end.0 in
    let had = m.pieces in
    let replies = m.replies in let told = answered_behind before h in let none = ap (λ (rs : List Reply). length rs) (no_replies number lb e.work is.resetting.works) in
    let lines = answered_by_lines first h c in let bytes = lines_in_bytes first h c in
    let asked = reports_on (known_in before) (port_log h) before in let later = more_reports (port_log e.work) lb in
    record {
      ticks = omega (arith, halted, ticks, own, bound, taken, more, was, known);
      pieces = omega (arith, pieces, few, all, had, taken, more);
      replies = omega (arith, replies, told, none, lines, bytes, asked, later, taken, more);
    }

pub few_behind : (blocks : ℕ) (state : State) (es : NewestFirst Closed) → AreClosed blocks state es → IsFew (closed_log es) (length es)
few_behind blocks state [] c = record { ticks = omega arith; pieces = omega arith; replies = omega arith }
few_behind blocks state (e ∷ es) c =
    let one : length es + 1 ≡ length (e ∷ es) = omega arith in
    subst (IsFew (closed_log (e ∷ es))) one (few_on (opening_behind blocks state es) (closed_log es) e (length es) c.0 (begins_behind blocks state es c.1) (few_behind blocks state es c.1))

-- fewer epochs are closed than there are marks
pub few_epochs : (blocks : ℕ) (state : State) (es : NewestFirst Closed) → AreClosed blocks state es → length es < 2 ^ 32
few_epochs blocks state es c = by_marks (marked_behind blocks state es c)
  where
    by_marks : Marked (closed_log es) (length es) → length es < 2 ^ 32
    by_marks (inl none) = let z = none.0 in omega (arith, z)
    by_marks (inr m) = let a = m.many in let b = m.few in omega (arith, a, b)
