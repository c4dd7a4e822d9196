-- Each cancel has one cut, and a word of its own; and a cut is made, and is over, where all that is published is done.
use Rattle.std.proofs.Common.{◌≡◌, ℕ, ◌+◌, ◌≤◌, ◌⊎◌, inl, inr, Bool, true, false, ◌&&◌, not, cond, List, [], ◌∷◌, ◌++◌, length, sym, refl, ap, ◌∙◌, arith, subst, append-nil}
use Rattle.std.specs.List.{count_by, list_any}
use Rattle.std.proofs.lemmas.List.Sums.{sum_by_push, sum_by-cons}
use Rattle.code_table.specs.declared.flags.Exec.{Exec}
use Rattle.feed_hold.specs.declared.Motion.{Motion}
use Rattle.feed_hold.specs.declared.Motion.TheVariants as motions
use Rattle.feed_hold.specs.Motions.{Call, IsBy, asks, hold_byte, cancel_byte}
use Rattle.feed_hold.specs.Motions.Call.{on_exec, on_pause, on_stopped}
use Rattle.feed_hold.proofs.Reaching.{StaysOrReaches, reached}
use Rattle.flight.specs.Places.{end_from}
use Rattle.board_journal.specs.Openings.{Opening}
use Rattle.step_line.specs.declared.Mark.TheVariants as marks
use Rattle.step_line.specs.declared.Piece.{Piece}
use Rattle.step_line.specs.declared.Piece.TheVariants as pieces
use Rattle.step_line.specs.Finishing.{ticks_together}
use Rattle.board_journal.specs.Ports.{asks_reset, asks_cancel, cancel_words_in}
use Rattle.board_journal.specs.Ports.PortStep.{took_exec, published}
use Rattle.board_journal.specs.Steps.{Journal, port_log, given_of, published_of, known_of, motion_of}
use Rattle.board_journal.specs.Steps.Step.{at_port, paused, became, cut}
use Rattle.board_rules.specs.Cuts.{parts_of, has_cut, is_cancelling, begins_cancel, cancels_of, pending}
use Rattle.board_rules.specs.Turns.{this_turn, unobeyed_by, unobeyed_of, loads}
use Rattle.board_rules.specs.Conduct.{Conducted, MayHappen, IsStopped, ticks_published, MayOpen}
use Rattle.board_rules.specs.Whole.{IsKnown}
use Rattle.board_rules.proofs.Opening.{opens_still}
use Rattle.board_rules.proofs.Keeping.{hand_is}
use Rattle.board_rules.proofs.Truths.{both_left, by_not, either_left, either_right}

-- jogs were cut since the cancel only while they are cancelled
cut_in : (first : Opening) (h : Journal) → Conducted first h → has_cut h ≡ true → is_cancelling (motion_of first h) ≡ true
cut_in first [] c is = absurd cc
cut_in first (paused ∷ h) c is = absurd cc
cut_in first (became call m ∷ h) c is = both_left (is_cancelling m) (has_cut h) is
cut_in first (cut k ∷ h) c is = ap is_cancelling c.0.cancelled
cut_in first (_ ∷ h) c is = cut_in first h c.1 is

uncut_else : (first : Opening) (h : Journal) → Conducted first h → is_cancelling (motion_of first h) ≡ false → has_cut h ≡ false
uncut_else first h c other = by_not (has_cut h) (λ is. absurd (let e = sym (cut_in first h c is) ∙ other in cc))

other_was : {A : Type 0} (m was : Motion) → is_cancelling m ≡ true → m ≡ was → is_cancelling was ≡ false → A
other_was m was is e none = absurd (let f = sym is ∙ ap is_cancelling e ∙ none in cc)

-- a cancel is over only where the machine has stopped
stops_by : (first : Opening) (h : Journal) (call : Call) (m : Motion) → StaysOrReaches m call (motion_of first h) → is_cancelling (motion_of first h) ≡ true → is_cancelling m ≡ false → (motion_of first h ≡ motions.Cancelling) × (call ≡ on_stopped)
stops_by first h call m (inl same) was now = other_was (motion_of first h) m was (sym same) now
stops_by first h call motions.Idle (inr (inl (held, by))) was now = other_was (motion_of first h) motions.Held was held refl
stops_by first h call motions.Idle (inr (inr (inl (inl runs, is)))) was now = other_was (motion_of first h) motions.Run was runs refl
stops_by first h call motions.Idle (inr (inr (inl (inr jogs, is)))) was now = other_was (motion_of first h) motions.Jog was jogs refl
stops_by first h call motions.Idle (inr (inr (inr (inl (cancelled, is))))) was now = (cancelled, is)
stops_by first h call motions.Idle (inr (inr (inr (inr (locked, is))))) was now = other_was (motion_of first h) motions.Alarm was locked refl
stops_by first h call motions.Run (inr (inl (inl idle, by))) was now = other_was (motion_of first h) motions.Idle was idle refl
stops_by first h call motions.Run (inr (inl (inr held, by))) was now = other_was (motion_of first h) motions.Held was held refl
stops_by first h call motions.Run (inr (inr (idle, is))) was now = other_was (motion_of first h) motions.Idle was idle refl
stops_by first h call motions.Holding (inr how) was now = other_was (motion_of first h) motions.Run was how.0 refl
stops_by first h call motions.Held (inr (inl (idle, by))) was now = other_was (motion_of first h) motions.Idle was idle refl
stops_by first h call motions.Held (inr (inr (holds, is))) was now = other_was (motion_of first h) motions.Holding was holds refl
stops_by first h call motions.Jog (inr how) was now = other_was (motion_of first h) motions.Idle was how.0 refl
stops_by first h call motions.Cancelling (inr how) was now = absurd cc
stops_by first h call motions.Stopping (inr how) was now = other_was (motion_of first h) motions.Run was how.0 refl
stops_by first h call motions.Alarm (inr (inl (idle, is))) was now = other_was (motion_of first h) motions.Idle was idle refl
stops_by first h call motions.Alarm (inr (inr (stops, is))) was now = other_was (motion_of first h) motions.Stopping was stops refl

-- and its cut was made
over_cut : (first : Opening) (h : Journal) (call : Call) (m : Motion) → MayHappen first call h → StaysOrReaches m call (motion_of first h) → is_cancelling (motion_of first h) ≡ true → is_cancelling m ≡ false → has_cut h ≡ true
over_cut first h call m may how was now =
    let by = stops_by first h call m how was now in
    let stops : MayHappen first on_stopped h = subst (λ (x : Call). MayHappen first x h) by.1 may in
    stops.cut_is by.0

cancels_on : (was now cut_is : Bool) (n parts : ℕ) → (was ≡ false → cut_is ≡ false) → (was ≡ true → now ≡ false → cut_is ≡ true) → n ≡ parts + pending was cut_is
    → cond (now && not was) (n + 1) n ≡ parts + pending now (now && cut_is)
cancels_on true true cut_is n parts none over e = e
cancels_on true false true n parts none over e = e
cancels_on true false false n parts none over e = absurd (let f = over refl refl in cc)
cancels_on false true true n parts none over e = absurd (let f = none refl in cc)
cancels_on false true false n parts none over e = omega (arith, e)
cancels_on false false cut_is n parts none over e = e

opens_uncancelled : (first : Opening) → MayOpen first → (m : Motion) → first.motion ≡ m → 0 ≡ 0 + pending (is_cancelling m) false
opens_uncancelled first opens motions.Cancelling is = opens_still first motions.Cancelling opens is refl
opens_uncancelled first opens m is = refl

-- each cancel has one cut, or has it to come
pub cancels_are : (first : Opening) (h : Journal) → Conducted first h → cancels_of first h ≡ length (parts_of first h) + pending (is_cancelling (motion_of first h)) (has_cut h)
cancels_are first [] c = opens_uncancelled first c first.motion refl
cancels_are first (paused ∷ h) c =
    cancels_are first h c.1 ∙ ap (λ (m : Motion). length (parts_of first h) + pending (is_cancelling m) (has_cut h)) c.0.rests.stands
cancels_are first (became call m ∷ h) c =
    cancels_on (is_cancelling (motion_of first h)) (is_cancelling m) (has_cut h) (cancels_of first h) (length (parts_of first h)) (uncut_else first h c.1)
    (over_cut first h call m c.0.1 (reached call (motion_of first h) m c.0.0)) (cancels_are first h c.1)
cancels_are first (cut k ∷ h) c =
    let e = cancels_are first h c.1 in
    let one : pending (is_cancelling (motion_of first h)) (has_cut h) ≡ 1 = ap (λ (m : Motion). pending (is_cancelling m) (has_cut h)) c.0.cancelled ∙ ap (pending true) c.0.uncut in
    let none : pending (is_cancelling (motion_of first h)) true ≡ 0 = ap (λ (m : Motion). pending (is_cancelling m) true) c.0.cancelled in
    omega (arith, e, one, none)
cancels_are first (_ ∷ h) c = cancels_are first h c.1

-- ---- by a word

-- a cancel begins by a word that asks for a hold or a cancel
begun_by : (first : Opening) (h : Journal) (call : Call) (m : Motion) → StaysOrReaches m call (motion_of first h) → begins_cancel (motion_of first h) m ≡ true → IsBy hold_byte call ⊎ IsBy cancel_byte call
begun_by first h call motions.Cancelling (inl same) begins = absurd (let e = sym (ap (λ (was : Motion). begins_cancel was motions.Cancelling) (sym same)) ∙ begins in cc)
begun_by first h call motions.Cancelling (inr how) begins = how.1
begun_by first h call _ how begins = absurd cc

same_word : (word other : Exec) (queued q : Bool) → on_exec word queued ≡ on_exec other q → word ≡ other
same_word word other queued q e = cc

word_asks : (word : Exec) (queued : Bool) → IsBy hold_byte (on_exec word queued) ⊎ IsBy cancel_byte (on_exec word queued) → asks_cancel word ≡ true
word_asks word queued (inl (other, q, is, asked)) = either_left (asks word hold_byte) (asks word cancel_byte) (ap (λ (w : Exec). asks w hold_byte) (same_word word other queued q is) ∙ asked)
word_asks word queued (inr (other, q, is, asked)) = either_right (asks word hold_byte) (asks word cancel_byte) (ap (λ (w : Exec). asks w cancel_byte) (same_word word other queued q is) ∙ asked)

no_word : {A : Type 0} (call : Call) → ((word : Exec) (queued : Bool) → call ≡ on_exec word queued → ⊥) → IsBy hold_byte call ⊎ IsBy cancel_byte call → A
no_word call other (inl (word, queued, is, asked)) = absurd (other word queued is)
no_word call other (inr (word, queued, is, asked)) = absurd (other word queued is)

-- the cancels, and the words that are not obeyed yet
abbrev Due : Opening → Journal → Type 0
Due first h = cancels_of first h + count_by asks_cancel (unobeyed_of h) ≤ cancel_words_in (port_log h)

kept_or_dropped : (r : Bool) (words : List Exec) (word : Exec) → count_by asks_cancel (cond r words (words ++ word ∷ [])) ≤ count_by asks_cancel words + cond (asks_cancel word) 1 0
kept_or_dropped true words word = omega arith
kept_or_dropped false words word = let e = sum_by_push (λ w. cond (asks_cancel w) 1 0) words word in omega arith

on_taken : (first : Opening) (h : Journal) (word : Exec) (asked : Bool) → asks_cancel word ≡ asked → Due first h → Due first (at_port (took_exec word) ∷ h)
on_taken first h word true is due =
    let push = kept_or_dropped (asks_reset word) (unobeyed_of h) word in
    let one : cond (asks_cancel word) 1 0 ≡ 1 = ap (λ (b : Bool). cond {A = ℕ} b 1 0) is in
    let words : cancel_words_in (port_log (at_port (took_exec word) ∷ h)) ≡ cancel_words_in (port_log h) + 1 =
    ap (λ (b : Bool). cond b (cancel_words_in (port_log h) + 1) (cancel_words_in (port_log h))) is in
    omega (arith, push, one, words, due)
on_taken first h word false is due =
    let push = kept_or_dropped (asks_reset word) (unobeyed_of h) word in
    let none : cond (asks_cancel word) 1 0 ≡ 0 = ap (λ (b : Bool). cond {A = ℕ} b 1 0) is in
    let words : cancel_words_in (port_log (at_port (took_exec word) ∷ h)) ≡ cancel_words_in (port_log h) =
    ap (λ (b : Bool). cond b (cancel_words_in (port_log h) + 1) (cancel_words_in (port_log h))) is in
    omega (arith, push, none, words, due)

on_obeyed : (first : Opening) (h : Journal) (word : Exec) (queued : Bool) (m : Motion) → unobeyed_of h ≡ word ∷ [] → StaysOrReaches m (on_exec word queued) (motion_of first h) → (begins : Bool) → begins_cancel (motion_of first h) m ≡ begins
    → Due first h → Due first (became (on_exec word queued) m ∷ h)
on_obeyed first h word queued m next how true begins due =
    let asked = word_asks word queued (begun_by first h (on_exec word queued) m how begins) in
    let all : count_by asks_cancel (unobeyed_of h) ≡ 1 = ap (λ (ws : List Exec). count_by asks_cancel ws) next ∙ sum_by-cons (λ w. cond (asks_cancel w) 1 0) word [] ∙ ap (λ (b : Bool). cond {A = ℕ} b 1 0 + 0) asked in
    let none : count_by asks_cancel (unobeyed_of (became (on_exec word queued) m ∷ h)) ≡ 0 = ap (λ (ws : List Exec). count_by asks_cancel (unobeyed_by (on_exec word queued) ws)) next in
    let more : cancels_of first (became (on_exec word queued) m ∷ h) ≡ cancels_of first h + 1 = ap (λ (b : Bool). cond b (cancels_of first h + 1) (cancels_of first h)) begins in
    omega (arith, all, none, more, due)
on_obeyed first h word queued m next how false begins due =
    let none : count_by asks_cancel (unobeyed_of (became (on_exec word queued) m ∷ h)) ≡ 0 = ap (λ (ws : List Exec). count_by asks_cancel (unobeyed_by (on_exec word queued) ws)) next in
    let same : cancels_of first (became (on_exec word queued) m ∷ h) ≡ cancels_of first h = ap (λ (b : Bool). cond b (cancels_of first h + 1) (cancels_of first h)) begins in
    omega (arith, none, same, due)

no_cancel : (first : Opening) (h : Journal) (call : Call) (m : Motion) → ((word : Exec) (queued : Bool) → call ≡ on_exec word queued → ⊥) → StaysOrReaches m call (motion_of first h) → cancels_of first (became call m ∷ h) ≡ cancels_of first h
no_cancel first h call m other how =
    ap (λ (b : Bool). cond b (cancels_of first h + 1) (cancels_of first h)) (by_not (begins_cancel (motion_of first h) m) (λ begins. no_word call other (begun_by first h call m how begins)))

on_call : (first : Opening) (h : Journal) (call : Call) (m : Motion) → MayHappen first call h → StaysOrReaches m call (motion_of first h) → Due first h → Due first (became call m ∷ h)
on_call first h (on_exec word queued) m may how due = on_obeyed first h word queued m may.next how (begins_cancel (motion_of first h) m) refl due
on_call first h on_pause m may how due = absurd may
on_call first h step m may how due = let e = no_cancel first h step m (λ word queued is. absurd cc) how in omega (arith, e, due)

cancels_due : (first : Opening) (h : Journal) → Conducted first h → Due first h
cancels_due first [] c = omega arith
cancels_due first (at_port (took_exec word) ∷ h) c = on_taken first h word (asks_cancel word) refl (cancels_due first h c.1)
cancels_due first (became call m ∷ h) c = on_call first h call m c.0.1 (reached call (motion_of first h) m c.0.0) (cancels_due first h c.1)
cancels_due first (_ ∷ h) c = cancels_due first h c.1

-- so the cuts are at most as many as the words that were taken
pub few_cuts : (first : Opening) (h : Journal) → Conducted first h → length (parts_of first h) ≤ cancel_words_in (port_log h)
few_cuts first h c = let e = cancels_are first h c in let d = cancels_due first h c in omega (arith, e, d)

-- ---- where all that is published is done

known_here : (first : Opening) (h : Journal) → Conducted first h → IsStopped first h → list_any loads (this_turn h) ≡ true → IsKnown first h
known_here first h c stopped load =
    let all : given_of h ≡ published_of h = hand_is first h c ∙ ap (λ (ps : List Piece). published_of h ++ ps) stopped.slowed.empty ∙ append-nil (published_of h) in
    record { load = load; known = stopped.done ∙ ap ticks_together all; place = ap (end_from first.place) all }

pub cut_is_known : (first : Opening) (h : Journal) (k : ℕ) → Conducted first (cut k ∷ h) → IsKnown first h
cut_is_known first h k c = known_here first h c.1 c.0.stopped c.0.load

pub cut_is_timely : (first : Opening) (h : Journal) (k : ℕ) → Conducted first (at_port (published (pieces.Mark (marks.Cut k))) ∷ h) → (list_any loads (this_turn h) ≡ true) × (known_of h ≡ ticks_published h)
cut_is_timely first h k c = c.0.1

-- and a cancel is over
pub over_is_known : (first : Opening) (h : Journal) (call : Call) (m : Motion) → Conducted first (became call m ∷ h) → motion_of first h ≡ motions.Cancelling → is_cancelling m ≡ false → (has_cut h ≡ true) × IsKnown first h
over_is_known first h call m c was now =
    let how = reached call (motion_of first h) m c.0.0 in
    let by = stops_by first h call m how (ap is_cancelling was) now in
    let stops : MayHappen first on_stopped h = subst (λ (x : Call). MayHappen first x h) by.1 c.0.1 in
    (stops.cut_is was, known_here first h c.1 stops.stopped (stops.load was))
