-- Where what is next is held up, the stop is waited for, and then the resume.
use Rattle.std.proofs.Common.{◌≡◌, ℕ, ◌+◌, ◌≤◌, ◌<◌, ◌⊎◌, inl, inr, Bool, true, false, ◌&&◌, ◌||◌, not, List, [], ◌∷◌, ◌++◌, length, drop, cond, nat_eq, Some, None, refl, sym, ap, ◌∙◌, subst, arith}
use Rattle.board_rules.specs.Within.{tries_ahead}
use Rattle.std.specs.List.{list_any, count_by}
use Rattle.std.specs.Option.{option_to_list}
use Rattle.std.specs.declared.option.Option.{Option}
use Rattle.std.proofs.lemmas.Bool.Decides.{nat_tests}
use Rattle.std.proofs.Math.Numerals.{lt_of_le_of_ne}
use Rattle.code_table.specs.declared.flags.Exec.{Exec}
use Rattle.feed_hold.specs.declared.Motion.{Motion as AnyMotion}
use Rattle.feed_hold.specs.declared.Motion.TheVariants as motions
use Rattle.feed_hold.specs.Motions.{asks, hold_byte, cancel_byte, start_byte, after, after_word, after_requests, after_hold, after_cancel, after_start, is_stopping}
use Rattle.feed_hold.specs.Motions.Call.{on_exec}
use Rattle.outside.specs.declared.On.TheVariants as on
use Rattle.outside.specs.declared.Turn.TheVariants.{Did, Wait}
use Rattle.status_report.specs.declared.Reply.{Reply}
use Rattle.line_geom.specs.declared.Block.{Block}
use Rattle.plan_rules.specs.Plans.{Planned}
use Rattle.step_line.specs.Asking.Asked.{a_move}
use Rattle.step_line.specs.declared.Piece.{Piece}
use Rattle.step_line.specs.declared.planned_move.PlannedMove.{PlannedMove}
use Rattle.run_rules.specs.Work.{Task, has_moves, pauses}
use Rattle.run_rules.specs.Work.Task.{ask, tell}
use Rattle.board_journal.specs.Openings.{Opening}
use Rattle.board_journal.specs.Ports.{asks_reset}
use Rattle.board_journal.specs.Ports.PortStep.{took_exec}
use Rattle.board_journal.specs.Steps.{Step, Journal, left_of, whole_of, closed_tells, hand_of, plan_of, motion_of}
use Rattle.board_journal.specs.Steps.Step.{at_port, became}
use Rattle.board_rules.specs.Cuts.{has_cut}
use Rattle.board_rules.specs.Turns.{this_turn, ends_turn, is_going, publishing, passing, unobeyed_of, owes_report, takes_changes, replans, asks_no_start, flags_taken, has_blocks, has_jogged, has_jog_to_start, waits_to_jog, has_segment, is_full, is_due, is_halting, is_limited, halts_next, is_counted, is_held_up, needs_motion, awaits_motion, tells_next, starts_cycle, tries_of, most_tries}
use Rattle.board_rules.specs.Conduct.{Conducted, EndsTurn, IsNextTask, AreWaiting, HasSlowedDown}
use Rattle.board_rules.proofs.Staying.{both_taken, stays_held}
use Rattle.board_rules.proofs.Given.{known_within}
use Rattle.board_rules.proofs.Greeted.{greeted_where}
use Rattle.units.specs.Truths.{one_if}
use Rattle.board_turns.specs.declared.board.Board.{Board}
use Rattle.board_turns.specs.declared.board.Flags.{Flags}
use Rattle.board_turns.specs.declared.board.Flags.TheVariants as words
use Rattle.board_turns.specs.Boards.{Keeps, Rounds, NoneWaits, IsFree, IsAsked, AwaitsWords, TakesFlags, takes_no_word, words_left, changes_left, number_of}
use Rattle.board_turns.specs.Turning.{HasPiece, IsHeldUp, MayRun, PassesNothing, StaysSo, IsCutNow, HasSettled, AreWorked, BoardWorked, obeyed, obeying, to_obey}
use Rattle.board_turns.specs.Reporting.{IsBehind}
use Rattle.board_rules.proofs.Facts.{none_held_up, unspoken_held_up, uncounted, uncounted_line}
use Rattle.board_rules.proofs.Tries.{counts_none, counts_one}
use Rattle.board_turns.proofs.Steps.{at_rest, halts_by}
use Rattle.board_turns.proofs.Standing.{all_published}
use Rattle.board_turns.proofs.Settling.{none_fits_so}
use Rattle.board_turns.proofs.Ends.{rounds_still, takes_none, no_word_left, free_of, free_passed}

-- ---- what is held up

some_left : (first : Opening) (h : Journal) → is_held_up first h ≡ true → whole_of h ≡ false → left_of first h ≡ [] → ⊥
some_left first h held_up partial none =
    let same = ap (λ (ts : List Task). needs_motion ts (whole_of h) (is_full first.blocks (plan_of h))) none in
    absurd (let e = sym partial ∙ sym same ∙ held_up in cc)

-- no reply is next then, so the banner is told
none_told : (tasks : List Task) (whole full : Bool) → needs_motion tasks whole full ≡ true → tells_next tasks ≡ false
none_told (tell r ∷ tasks) whole full held_up = absurd cc
none_told _ whole full held_up = refl

pub held_awaits : (first : Opening) (h : Journal) → Conducted first h → IsHeldUp first h → AwaitsWords h
held_awaits first h c halted = record {
  greeted = greeted_where first h c (none_told (left_of first h) (whole_of h) (is_full first.blocks (plan_of h)) halted.held_up);
  obeyed = (free_of h halted.ready.quiet).obeyed;
}

-- no try to publish is counted
uncounted_halted : (first : Opening) (h : Journal) → IsHeldUp first h → is_counted first h ≡ false
uncounted_halted first h halted = by_whole (whole_of h) refl
  where
    by_whole : (w : Bool) → whole_of h ≡ w → is_counted first h ≡ false
    by_whole true e = uncounted_line first h halted.halts e
    by_whole false e = uncounted first h (none_held_up (left_of first h) (whole_of h) (is_full first.blocks (plan_of h)) halted.held_up e)

-- and few stand behind the last poll
pub few_halted : (first : Opening) (h : Journal) → IsHeldUp first h → tries_of first h + tries_ahead first h ≤ 4
few_halted first h halted = halted.ready.few (uncounted_halted first h halted)

-- what is in hand or due may be tried to be published
pub may_run_halted : (first : Opening) (h : Journal) → IsHeldUp first h → MayRun first h
may_run_halted first h halted = record {
  quiet = halted.ready.quiet;
  polled = λ e. absurd (let f = sym halted.ready.unpolled ∙ e in cc);
  once = λ counted. absurd (let f = sym (uncounted_halted first h halted) ∙ counted in cc);
  few = λ e. (few_halted first) h halted;
  unspoken = unspoken_held_up (left_of first h) (whole_of h) (is_full first.blocks (plan_of h)) halted.held_up;
}

-- a move that is held up has no room
pub full_held_up : (first : Opening) (h : Journal) (m : PlannedMove) → is_held_up first h ≡ true → IsNextTask first (ask (a_move m)) h → is_full first.blocks (plan_of h) ≡ true
full_held_up first h m held_up next = sym (ap (λ (ts : List Task). needs_motion ts (whole_of h) (is_full first.blocks (plan_of h))) next) ∙ held_up

none_wait : (first : Opening) (h : Journal) → is_halting (motion_of first h) ≡ true → AreWaiting first h → ⊥
none_wait first h halts w = absurd (let e = sym halts ∙ ap is_halting w.stands in cc)

-- ---- behind a stop that was looked for

pub still_held_up : (first : Opening) (h next : Journal) → PassesNothing first h next → StaysSo first h next → is_held_up first h ≡ true → is_held_up first next ≡ true
still_held_up first h next p s held_up =
    ap (λ (ts : List Task). needs_motion ts (whole_of next) (is_full first.blocks (plan_of next))) s.left ∙ ap (λ w. needs_motion (left_of first h) w (is_full first.blocks (plan_of next))) p.whole
    ∙ ap (λ (p : Planned). needs_motion (left_of first h) (whole_of h) (is_full first.blocks p)) s.plan ∙ held_up

few_settled : (first : Opening) (h next : Journal) → HasSettled first h next → tries_of first h + tries_ahead first h ≤ 4 → tries_of first next + tries_ahead first next ≤ 4
few_settled first h next s few = let t = s.passes.tries in let w = s.passes.ahead in omega (arith, few, t, w)

-- where the machine is to be halted, it slows down for that, or stands in alarm
abbrev pub HaltsInTime : Opening → Journal → Type 0
HaltsInTime first h = halts_next (left_of first h) ≡ true → is_limited (motion_of first h) ≡ true

pub ends_settled : (first : Opening) (h next : Journal) → IsHeldUp first h → HasSettled first h next → HaltsInTime first next → EndsTurn first next
ends_settled first h next halted s halts =
    let quiet = s.passes.quiet in
    let none = halted.ready.quiet.quiet in
    let few = few_settled first h next s (few_halted first h halted) in
    let worked = s.passes.worked halted.ready.quiet.worked in
    record {
      once = omega (arith, quiet, none);
      adds = none_fits_so first h next s.stays (λ m move. (full_held_up first) h m halted.held_up move);
      starts = λ w. absurd (none_wait first h halted.halts (s.waiting w));
      tries = omega (arith, few);
      obeyed = worked.obeyed;
      changed = worked.changed;
      halts = halts;
    }

pub rounds_settled : {N : ℕ} (first : Opening) (board : Board N) (h next : Journal) → IsHeldUp first h → HasSettled first h next → board.published ≡ false → Rounds first board.published next
rounds_settled first board h next halted s unpublished =
    subst (λ b. (Rounds first) b next) (sym unpublished) (rounds_still first next (λ w. absurd (none_wait first h halted.halts (s.waiting w))) (few_settled first h next s (few_halted first h halted)))

-- no word is to be taken, none waits, and no report is owed
pub free_settled : (first : Opening) (h next : Journal) → IsHeldUp first h → HasSettled first h next → IsFree next
free_settled first h next halted s = free_passed first h next s.passes (free_of h halted.ready.quiet)

-- a board's number, where no word of flags is to be taken
pub fewer_words : (first : Opening) (f was : Flags) (h next : Journal) → f ≡ words.None → was ≡ words.None → number_of first words.None next < number_of first words.None h → number_of first f next < number_of first was h
fewer_words first f was h next e g falls = let a = ap words_left e in let b = ap words_left g in omega (arith, falls, a, b)

-- something came of a machine that has stopped
pub did_settle : {N : ℕ} (first : Opening) (board : Board N) (was : Flags) (h next : Journal) → Keeps first board next → IsHeldUp first h → HasSettled first h next → HasSlowedDown first h → (HasSlowedDown first next → ⊥)
    → board.published ≡ false → board.flags ≡ words.None → was ≡ words.None → BoardWorked first Did was board h next
did_settle first board was h next k halted s slowed other unpublished no_word none = record {
  keeps = k;
  rounds = rounds_settled first board h next halted s unpublished;
  flags = takes_none board next no_word (free_settled first h next halted s);
  still = λ e. no_word_left board.flags no_word;
  unpublished = λ o e. unpublished;
  steps = s.passes.steps;
  are = s.passes.are;
  inner = s.passes.inner;
  may = ends_settled first h next halted s (halts_by first board next k);
  moves = λ e. inr (fewer_words first board.flags was h next no_word none falls);
}
  where
    falls : number_of first words.None next < number_of first words.None h
    falls =
        let less = s.falls halted.halts slowed other in
        let p = s.passes.pauses in
        let e = ap (λ (rs : List Reply). one_if (nat_eq (length rs) 0)) s.passes.closed in
        omega (arith, less, p, e)

-- ---- a stop that is waited for

-- a machine that is to stop, or is held
stopping_by : (m : AnyMotion) → is_halting m ≡ true → (m ≡ motions.Held → ⊥) → is_stopping m ≡ true
stopping_by motions.Holding is other = refl
stopping_by motions.Held is other = absurd (other refl)
stopping_by motions.Cancelling is other = refl
stopping_by m is other = absurd cc

pub not_due : (first : Opening) (h : Journal) → (HasPiece first h → ⊥) → is_due first h ≡ false
not_due first h none = by_due (is_due first h) refl
  where
    by_due : (d : Bool) → is_due first h ≡ d → is_due first h ≡ false
    by_due true e = absurd (none (inr e))
    by_due false e = e

pub none_in_hand : (first : Opening) (h : Journal) → (HasPiece first h → ⊥) → hand_of h ≡ []
none_in_hand first h none = by_hand (hand_of h) (λ some. none (inl some))
  where
    by_hand : (ps : List Piece) → ((ps ≡ [] → ⊥) → ⊥) → ps ≡ []
    by_hand [] f = refl
    by_hand (p ∷ ps) f = absurd (f (λ e. absurd cc))

by_speed : (v : ℕ) (goes slows some : Bool) → slows ≡ true → some ≡ true → ((goes || (slows && not (nat_eq v 0))) && some) ≡ false → nat_eq v 0 ≡ true
by_speed v goes slows some stops is none = by_test (nat_eq v 0) goes slows some stops is none
  where
    by_test : (t goes slows some : Bool) → slows ≡ true → some ≡ true → ((goes || (slows && not t)) && some) ≡ false → t ≡ true
    by_test true goes slows some stops is none = refl
    by_test false true slows true stops is none = absurd cc
    by_test false false true true stops is none = absurd cc
    by_test false goes false some stops is none = absurd cc
    by_test false goes slows false stops is none = absurd cc

-- a machine that slows down, with no segment due, stands still
pub slow_stands : {N : ℕ} (first : Opening) (board : Board N) (h : Journal) → Keeps first board h → is_stopping (motion_of first h) ≡ true → is_due first h ≡ false → (plan_of h).speed ≡ 0
slow_stands first board h k slows due = by_blocks (plan_of h).blocks refl
  where
    by_blocks : (bs : List Block) → (plan_of h).blocks ≡ bs → (plan_of h).speed ≡ 0
    by_blocks [] e = (at_rest first board h k e).speed
    by_blocks (b ∷ bs) e =
        let zero = by_speed (plan_of h).speed (is_going (motion_of first h)) (is_stopping (motion_of first h)) (has_blocks (plan_of h).blocks) slows (ap has_blocks e) due in
        grind (arith, nat_tests, zero)

-- where nothing is in hand or due, a machine that halts and is not held has slowed down
pub slowed_halted : {N : ℕ} (first : Opening) (board : Board N) (h : Journal) → Keeps first board h → IsHeldUp first h → (HasPiece first h → ⊥) → (motion_of first h ≡ motions.Held → ⊥) → HasSlowedDown first h
slowed_halted first board h k halted none other =
    let slows = stopping_by (motion_of first h) halted.halts other in
    record { slows = slows; speed = slow_stands first board h k slows (not_due first h none); empty = none_in_hand first h none }

-- and has no segment due
no_more_due : (goes slows some : Bool) (v : ℕ) → (slows ≡ true → goes ≡ false) → slows ≡ true → v ≡ 0 → ((goes || (slows && not (nat_eq v 0))) && some) ≡ false
no_more_due goes slows some v one is zero =
    ap (λ g. (g || (slows && not (nat_eq v 0))) && some) (one is) ∙ ap (λ n. (slows && not (nat_eq n 0)) && some) zero ∙ ap (λ b. b && some) (and_false slows)
  where
    and_false : (a : Bool) → (a && false) ≡ false
    and_false true = refl
    and_false false = refl

not_both : (m : AnyMotion) → is_stopping m ≡ true → is_going m ≡ false
not_both motions.Run is = absurd cc
not_both motions.Jog is = absurd cc
not_both m is = refl

slowed_undue : (first : Opening) (h : Journal) → HasSlowedDown first h → is_due first h ≡ false
slowed_undue first h s = no_more_due (is_going (motion_of first h)) (is_stopping (motion_of first h)) (has_blocks (plan_of h).blocks) (plan_of h).speed (not_both (motion_of first h)) s.slows s.speed

-- the stop is waited for: ticks are found not to be done
pub waits_for_stop : {N : ℕ} (first : Opening) (board : Board N) (was : Flags) (h next : Journal) → Keeps first board next → IsHeldUp first h → HasSettled first h next → HasSlowedDown first next
    → board.published ≡ false → board.flags ≡ words.None → BoardWorked first (Wait on.Motion) was board h next
waits_for_stop first board was h next k halted s slowed unpublished no_word = record {
  keeps = k;
  rounds = rounds_settled first board h next halted s unpublished;
  flags = takes_none board next no_word free;
  still = λ e. no_word_left board.flags no_word;
  unpublished = λ o e. unpublished;
  steps = s.passes.steps;
  are = s.passes.are;
  inner = s.passes.inner;
  may = record {
    ends = ends_settled first h next halted s (halts_by first board next k);
    cause = record {
      load = s.looked slowed;
      undone = lt_of_le_of_ne (known_within first next k.conducted) (λ e. s.stopped (record { slowed = slowed; done = e ∙ all_published first board next k slowed.empty }));
      awaits = or_true (awaits_motion (left_of first next)) (is_stopping (motion_of first next) && is_held_up first next) (both (is_stopping (motion_of first next)) (is_held_up first next) slowed.slows (held_up s.stays));
    };
    still = s.passes.still ∙ halted.ready.quiet.still;
    flags = free.flags;
    obeyed = free.obeyed;
    unowed = λ e. absurd (let f = sym e ∙ free.unowed in cc);
    round = λ due has. absurd (let e = sym (slowed_undue first next slowed) ∙ due in cc);
  };
  moves = λ e. absurd cc;
}
  where
    free : IsFree next
    free = free_settled first h next halted s

    held_up : StaysSo first h next ⊎ IsCutNow first h next → is_held_up first next ≡ true
    held_up (inl stays) = still_held_up first h next s.passes stays halted.held_up
    held_up (inr cuts) = absurd (cuts.some slowed.empty)

    or_true : (a b : Bool) → b ≡ true → (a || b) ≡ true
    or_true true b e = refl
    or_true false b e = e

    both : (a b : Bool) → a ≡ true → b ≡ true → (a && b) ≡ true
    both true b e f = f
    both false b e f = absurd cc

-- ---- a word of requests is taken, and obeyed

start_idle : (asked : Bool) (m : AnyMotion) → after_start asked true m ≡ motions.Idle → m ≡ motions.Idle
start_idle false m e = e
start_idle true motions.Idle e = refl
start_idle true motions.Run e = absurd cc
start_idle true motions.Holding e = absurd cc
start_idle true motions.Held e = absurd cc
start_idle true motions.Jog e = absurd cc
start_idle true motions.Cancelling e = absurd cc
start_idle true motions.Stopping e = absurd cc
start_idle true motions.Alarm e = absurd cc

cancel_idle : (asked : Bool) (m : AnyMotion) → after_cancel asked m ≡ motions.Idle → m ≡ motions.Idle
cancel_idle false m e = e
cancel_idle true motions.Idle e = refl
cancel_idle true motions.Run e = absurd cc
cancel_idle true motions.Holding e = absurd cc
cancel_idle true motions.Held e = absurd cc
cancel_idle true motions.Jog e = absurd cc
cancel_idle true motions.Cancelling e = absurd cc
cancel_idle true motions.Stopping e = absurd cc
cancel_idle true motions.Alarm e = absurd cc

hold_idle : (asked : Bool) (m : AnyMotion) → after_hold asked m ≡ motions.Idle → m ≡ motions.Idle
hold_idle false m e = e
hold_idle true motions.Idle e = refl
hold_idle true motions.Run e = absurd cc
hold_idle true motions.Holding e = absurd cc
hold_idle true motions.Held e = absurd cc
hold_idle true motions.Jog e = absurd cc
hold_idle true motions.Cancelling e = absurd cc
hold_idle true motions.Stopping e = absurd cc
hold_idle true motions.Alarm e = absurd cc

-- where blocks are queued, a machine that stands behind a word stood before
pub idle_before : (word : Exec) (m : AnyMotion) → after_word word true m ≡ motions.Idle → m ≡ motions.Idle
idle_before word m e =
    let hold = asks word hold_byte in
    let cancel = asks word cancel_byte in
    hold_idle hold m (cancel_idle cancel (after_hold hold m) (start_idle (asks word start_byte && not hold) (after_cancel cancel (after_hold hold m)) e))

pub waited_before : (first : Opening) (word : Exec) (h : Journal) → AreWaiting first (obeying first (Some word) h) → AreWaiting first h
waited_before first word h w = record {
  stands = idle_before word (motion_of first h) (subst (λ queued. after_word word queued (motion_of first h) ≡ motions.Idle) w.blocks w.stands);
  blocks = w.blocks;
}

-- none waits behind it that did not before
pub none_waits_behind : (first : Opening) (w : Option Exec) (h : Journal) → NoneWaits first h → NoneWaits first (obeying first w h)
none_waits_behind first None h none = none
none_waits_behind first (Some word) h none = λ w. none (waited_before first word h w)

pub rounds_behind : (first : Opening) (w : Option Exec) (h : Journal) → NoneWaits first h → tries_of first h + tries_ahead first h ≤ 4 → Rounds first false (obeying first w h)
rounds_behind first None h none few = rounds_still first h none few
rounds_behind first (Some word) h none few = rounds_still first (obeying first (Some word) h) (none_waits_behind first (Some word) h none) few

-- what a word that is obeyed leaves as it was
pub record Leaves (first : Opening) (h next : Journal) : Type 0 where
  pub left : left_of first next ≡ left_of first h
  pub closed : closed_tells next ≡ closed_tells h
  pub still : list_any passing (this_turn next) ≡ list_any passing (this_turn h)
  pub unasked : list_any asks_no_start (this_turn next) ≡ list_any asks_no_start (this_turn h)
  pub held_up : is_held_up first next ≡ is_held_up first h

pub leaves : (first : Opening) (w : Option Exec) (h : Journal) → Leaves first h (obeying first w h)
leaves first None h = record { left = refl; closed = refl; still = refl; unasked = refl; held_up = refl }
leaves first (Some word) h = record { left = refl; closed = refl; still = refl; unasked = refl; held_up = refl }

pub behind_word : (first : Opening) (waiting : Option Exec) (h next : Journal) → IsBehind h next → IsBehind h (obeying first waiting next)
behind_word first None h next b = record { steps = b.steps; are = b.are; inner = b.inner }
behind_word first (Some word) h next b =
    let s = became (on_exec word (has_blocks (plan_of next).blocks)) (after_word word (has_blocks (plan_of next).blocks) (motion_of first next)) in
    record { steps = s ∷ b.steps; are = ap (λ (j : Journal). s ∷ j) b.are; inner = b.inner }

-- a word was taken behind which a report is told first
abbrev pub taken : Exec → Journal → Journal
taken word h = at_port (took_exec word) ∷ h

-- what of it waits to be obeyed
pub word_waits : (word : Exec) (h : Journal) → unobeyed_of h ≡ [] → unobeyed_of (taken word h) ≡ option_to_list (to_obey word)
word_waits word h none = ap (λ (ws : List Exec). cond (asks_reset word) ws (ws ++ word ∷ [])) none ∙ by_reset (asks_reset word)
  where
    by_reset : (r : Bool) → cond r [] (word ∷ []) ≡ option_to_list (cond r None (Some word))
    by_reset true = refl
    by_reset false = refl

pub changed_taken : (word : Exec) (h : Journal) → count_by replans (this_turn h) ≡ count_by takes_changes (this_turn h) → count_by replans (this_turn (taken word h)) ≡ count_by takes_changes (this_turn (taken word h))
changed_taken word h same = counts_none replans (at_port (took_exec word)) (this_turn h) refl ∙ same ∙ sym (counts_none takes_changes (at_port (took_exec word)) (this_turn h) refl)

ends_behind : (first : Opening) (w : Option Exec) (h : Journal) → count_by publishing (this_turn h) ≤ 1 → unobeyed_of h ≡ option_to_list w → count_by replans (this_turn h) ≡ count_by takes_changes (this_turn h)
    → ((m : PlannedMove) → IsNextTask first (ask (a_move m)) h → is_full first.blocks (plan_of h) ≡ true) → (AreWaiting first h → starts_cycle first h ≡ false) → tries_of first h ≤ most_tries → HaltsInTime first (obeying first w h) → EndsTurn first (obeying first w h)
ends_behind first None h once next changed adds starts few halts =
    record { once = once; adds = adds; starts = starts; tries = few; obeyed = λ e. next; changed = changed; halts = halts }
ends_behind first (Some word) h once next changed adds starts few halts =
    let call = became (on_exec word (has_blocks (plan_of h).blocks)) (after_word word (has_blocks (plan_of h).blocks) (motion_of first h)) in
    let a = counts_none publishing call (this_turn h) refl in
    record {
      once = omega (arith, a, once);
      adds = adds;
      starts = λ waits. starts (waited_before first word h waits);
      tries = few;
      obeyed = λ e. ap (λ (ws : List Exec). drop 1 ws) next;
      changed = counts_none replans call (this_turn h) refl ∙ changed ∙ sym (counts_none takes_changes call (this_turn h) refl);
      halts = halts;
    }

pub ends_obeyed : (first : Opening) (word : Exec) (h : Journal) → count_by publishing (this_turn h) ≡ 0 → unobeyed_of h ≡ [] → AreWorked h → ((m : PlannedMove) → IsNextTask first (ask (a_move m)) h → is_full first.blocks (plan_of h) ≡ true)
    → (AreWaiting first h → starts_cycle first h ≡ false) → tries_of first h ≤ most_tries → HaltsInTime first (obeyed first word h) → EndsTurn first (obeyed first word h)
ends_obeyed first word h quiet none w adds starts few halts =
    let b = counts_one publishing (at_port (took_exec word)) (this_turn h) refl in
    ends_behind first (to_obey word) (taken word h) (omega (arith, b, quiet)) (word_waits word h none) (changed_taken word h w.changed) adds
    (λ waits. starts (record { stands = waits.stands; blocks = waits.blocks })) few halts

pub ends_taken : (first : Opening) (word : Exec) (h : Journal) → owes_report (taken word h) ≡ true → count_by publishing (this_turn h) ≡ 0 → AreWorked h → ((m : PlannedMove) → IsNextTask first (ask (a_move m)) h → is_full first.blocks (plan_of h) ≡ true)
    → (AreWaiting first h → starts_cycle first h ≡ false) → tries_of first h ≤ most_tries → HaltsInTime first (taken word h) → EndsTurn first (taken word h)
ends_taken first word h owed quiet w adds starts few halts =
    let took = at_port (took_exec word) in
    let a = counts_one publishing took (this_turn h) refl in
    record {
      once = omega (arith, a, quiet);
      adds = adds;
      starts = λ waits. starts (record { stands = waits.stands; blocks = waits.blocks });
      tries = few;
      obeyed = λ e. absurd (let f = sym e ∙ owed in cc);
      changed = changed_taken word h w.changed;
      halts = halts;
    }

-- both words were taken, and this one waits for the report, unless it asks for a reset
pub asked_now : (word : Exec) (h : Journal) → flags_taken (taken word h) ≡ true → unobeyed_of h ≡ [] → owes_report (taken word h) ≡ true → IsAsked (to_obey word) (taken word h)
asked_now word h flags none owed = record { flags = flags; next = word_waits word h none; owed = owed }

free_behind : (first : Opening) (w : Option Exec) (h : Journal) → flags_taken h ≡ true → unobeyed_of h ≡ option_to_list w → owes_report h ≡ false → IsFree (obeying first w h)
free_behind first None h flags next unowed = record { flags = flags; obeyed = next; unowed = unowed }
free_behind first (Some word) h flags next unowed = record { flags = flags; obeyed = ap (λ (ws : List Exec). drop 1 ws) next; unowed = unowed }

pub free_now : (first : Opening) (word : Exec) (h : Journal) → flags_taken (taken word h) ≡ true → unobeyed_of h ≡ [] → owes_report (taken word h) ≡ false → IsFree (obeyed first word h)
free_now first word h flags none unowed = free_behind first (to_obey word) (taken word h) flags (word_waits word h none) unowed

-- ---- the resume

-- no jog waits for its start there
pub no_jog_held : (first : Opening) (h : Journal) → motion_of first h ≡ motions.Held → has_jog_to_start first h ≡ false
no_jog_held first h held = ap (λ m. waits_to_jog m (has_jogged h) (has_blocks (plan_of h).blocks || has_moves (left_of first h))) held

resumed_by : (hold cancel start queued cut : Bool) → (after_requests hold cancel start queued motions.Held ≡ motions.Held → ⊥) → changes_left (after_requests hold cancel start queued motions.Held) cut ≡ 0
resumed_by true true true queued cut f = absurd (f refl)
resumed_by true true false queued cut f = absurd (f refl)
resumed_by true false true queued cut f = absurd (f refl)
resumed_by true false false queued cut f = absurd (f refl)
resumed_by false true true true cut f = refl
resumed_by false true true false cut f = refl
resumed_by false true false queued cut f = absurd (f refl)
resumed_by false false true true cut f = refl
resumed_by false false true false cut f = refl
resumed_by false false false queued cut f = absurd (f refl)

-- a machine that a word has resumed halts no more
resumed : (first : Opening) (w : Option Exec) (h : Journal) → motion_of first h ≡ motions.Held → (motion_of first (obeying first w h) ≡ motions.Held → ⊥) → changes_left (motion_of first (obeying first w h)) (has_cut (obeying first w h)) ≡ 0
resumed first None h held resumes = absurd (resumes held)
resumed first (Some word) h held resumes =
    ap (λ m. changes_left (after_word word (has_blocks (plan_of h).blocks) m) (has_cut (obeying first (Some word) h))) held
    ∙ resumed_by (asks word hold_byte) (asks word cancel_byte) (asks word start_byte) (has_blocks (plan_of h).blocks) (has_cut (obeying first (Some word) h))
    (λ e. resumes (ap (λ m. after_word word (has_blocks (plan_of h).blocks) m) held ∙ e))

halts_before : (first : Opening) (w : Option Exec) (h : Journal) → Conducted first (obeying first w h) → HaltsInTime first (obeying first w h) → HaltsInTime first h
halts_before first None h c halts = halts
halts_before first (Some word) h c halts = c.0.1.halts

ends_awaited : {N : ℕ} (first : Opening) (board : Board N) (word : Exec) (h mid : Journal) → Keeps first board (obeyed first word mid) → IsHeldUp first h → HasSettled first h mid → EndsTurn first (obeyed first word mid)
ends_awaited first board word h mid k halted s =
    let ends = ends_settled first h mid halted s (halts_before first (to_obey word) (taken word mid) k.conducted (halts_by first board (obeyed first word mid) k)) in
    ends_obeyed first word mid (s.passes.quiet ∙ halted.ready.quiet.quiet) (free_settled first h mid halted s).obeyed (s.passes.worked halted.ready.quiet.worked) ends.adds ends.starts ends.tries
    (halts_by first board (obeyed first word mid) k)

rounds_awaited : {N : ℕ} (first : Opening) (word : Exec) (board : Board N) (h mid : Journal) → IsHeldUp first h → HasSettled first h mid → board.published ≡ false → Rounds first board.published (obeyed first word mid)
rounds_awaited first word board h mid halted s unpublished =
    subst (λ b. (Rounds first) b (obeyed first word mid)) (sym unpublished)
    (rounds_behind first (to_obey word) (taken word mid) (λ w. absurd (none_wait first h halted.halts (s.waiting (record { stands = w.stands; blocks = w.blocks })))) (few_settled first h mid s (few_halted first h halted)))

-- the steps of a word that is taken, and obeyed
pub obeyed_behind : (first : Opening) (word : Exec) (h mid : Journal) (steps : List Step) → mid ≡ steps ++ h → list_any ends_turn steps ≡ false → IsBehind h (obeyed first word mid)
obeyed_behind first word h mid steps are inner = behind_word first (to_obey word) h (taken word mid) (record { steps = at_port (took_exec word) ∷ steps; are = ap (λ (j : Journal). at_port (took_exec word) ∷ j) are; inner = inner })

-- the machine is resumed
pub did_resume : {N : ℕ} (first : Opening) (board : Board N) (was : Flags) (word : Exec) (h mid : Journal) → Keeps first board (obeyed first word mid) → IsHeldUp first h → HasSettled first h mid → motion_of first h ≡ motions.Held
    → (motion_of first (obeyed first word mid) ≡ motions.Held → ⊥) → owes_report (taken word mid) ≡ false → board.published ≡ false → board.flags ≡ words.None → was ≡ words.None → BoardWorked first Did was board h (obeyed first word mid)
did_resume first board was word h mid k halted s held resumes unowed unpublished no_word none = record {
  keeps = k;
  rounds = rounds_awaited first word board h mid halted s unpublished;
  flags = takes_none board (obeyed first word mid) no_word (free_now first word mid (both_taken mid (s.passes.flags ∙ halted.ready.quiet.flags)).1 (free_settled first h mid halted s).obeyed unowed);
  still = λ e. no_word_left board.flags no_word;
  unpublished = λ o e. unpublished;
  steps = (obeyed_behind first word h mid s.passes.steps s.passes.are s.passes.inner).steps;
  are = (obeyed_behind first word h mid s.passes.steps s.passes.are s.passes.inner).are;
  inner = (obeyed_behind first word h mid s.passes.steps s.passes.are s.passes.inner).inner;
  may = ends_awaited first board word h mid k halted s;
  moves = λ e. inr (fewer_words first board.flags was h (obeyed first word mid) no_word none falls);
}
  where
    falls : number_of first words.None (obeyed first word mid) < number_of first words.None h
    falls =
        let zero = resumed first (to_obey word) (taken word mid) (s.held held) resumes in
        let one = ap (λ m. changes_left m (has_cut h)) held in
        let l : pauses (left_of first (obeyed first word mid)) ≡ pauses (left_of first mid) = ap pauses (leaves first (to_obey word) (taken word mid)).left in
        let p = s.passes.pauses in
        let c : one_if (nat_eq (length (closed_tells (obeyed first word mid))) 0) ≡ one_if (nat_eq (length (closed_tells mid)) 0) = ap (λ (rs : List Reply). one_if (nat_eq (length rs) 0)) (leaves first (to_obey word) (taken word mid)).closed in
        let e = ap (λ (rs : List Reply). one_if (nat_eq (length rs) 0)) s.passes.closed in
        omega (arith, zero, one, l, p, c, e)

-- the resume is waited for
pub waits_for_resume : {N : ℕ} (first : Opening) (board : Board N) (was : Flags) (word : Exec) (h mid : Journal) → Keeps first board (obeyed first word mid) → IsHeldUp first h → HasSettled first h mid → motion_of first h ≡ motions.Held
    → motion_of first (obeyed first word mid) ≡ motions.Held → owes_report (taken word mid) ≡ false → board.published ≡ false → board.flags ≡ words.None → BoardWorked first (Wait on.Resume) was board h (obeyed first word mid)
waits_for_resume first board was word h mid k halted s held stays unowed unpublished no_word = record {
  keeps = k;
  rounds = rounds_awaited first word board h mid halted s unpublished;
  flags = takes_none board (obeyed first word mid) no_word free;
  still = λ e. no_word_left board.flags no_word;
  unpublished = λ o e. unpublished;
  steps = (obeyed_behind first word h mid s.passes.steps s.passes.are s.passes.inner).steps;
  are = (obeyed_behind first word h mid s.passes.steps s.passes.are s.passes.inner).are;
  inner = (obeyed_behind first word h mid s.passes.steps s.passes.are s.passes.inner).inner;
  may = record {
    ends = ends_awaited first board word h mid k halted s;
    cause = record { held = stays; unasked = l.unasked ∙ or_first (asks_no_start (at_port (took_exec word))) (list_any asks_no_start (this_turn mid)) unasked; held_up = l.held_up ∙ held_up s.stays };
    still = l.still ∙ s.passes.still ∙ halted.ready.quiet.still;
    flags = free.flags;
    obeyed = free.obeyed;
    unowed = λ e. absurd (let f = sym e ∙ free.unowed in cc);
    round = λ due has. absurd (let e : false ≡ true = sym (ap (λ m. has_segment m (plan_of (obeyed first word mid))) stays) ∙ due in cc);
  };
  moves = λ e. absurd cc;
}
  where
    free : IsFree (obeyed first word mid)
    free = free_now first word mid (both_taken mid (s.passes.flags ∙ halted.ready.quiet.flags)).1 (free_settled first h mid halted s).obeyed unowed

    l : Leaves first (taken word mid) (obeyed first word mid)
    l = leaves first (to_obey word) (taken word mid)

    by_reset : (r : Bool) → asks_reset word ≡ r → (asks_reset word ≡ true) ⊎ (after (on_exec word (has_blocks (plan_of mid).blocks)) motions.Held ≡ Some motions.Held)
    by_reset true e = inl e
    by_reset false e =
        let obeys : motion_of first (obeyed first word mid) ≡ after_word word (has_blocks (plan_of mid).blocks) (motion_of first mid) = ap (λ r. motion_of first (obeying first (cond r None (Some word)) (taken word mid))) e in
        inr (ap (λ m. Some m) (sym (ap (λ m. after_word word (has_blocks (plan_of mid).blocks) m) (s.held held)) ∙ (sym obeys ∙ stays)))

    unasked : asks_no_start (at_port (took_exec word)) ≡ true
    unasked = (stays_held word (has_blocks (plan_of mid).blocks)).1 (by_reset (asks_reset word) refl)

    held_up : StaysSo first h mid ⊎ IsCutNow first h mid → is_held_up first mid ≡ true
    held_up (inl stays) = still_held_up first h mid s.passes stays halted.held_up
    held_up (inr cuts) = absurd (let e = sym held ∙ cuts.uncut.cancelled in cc)

    or_first : (a b : Bool) → a ≡ true → (a || b) ≡ true
    or_first true b e = refl
    or_first false b e = absurd cc

-- a report is asked for while the resume is waited for
pub did_ask : {N : ℕ} (first : Opening) (board : Board N) (was : Flags) (word : Exec) (h mid : Journal) → Keeps first board (taken word mid) → IsHeldUp first h → HasSettled first h mid → owes_report (taken word mid) ≡ true
    → board.published ≡ false → board.flags ≡ words.Report (to_obey word) → was ≡ words.None → BoardWorked first Did was board h (taken word mid)
did_ask first board was word h mid k halted s owed unpublished asks none = record {
  keeps = k;
  rounds = subst (λ b. (Rounds first) b (taken word mid)) (sym unpublished)
      (rounds_still first (taken word mid) (λ w. absurd (none_wait first h halted.halts (s.waiting (record { stands = w.stands; blocks = w.blocks })))) (few_settled first h mid s (few_halted first h halted)));
  flags = subst (λ f. TakesFlags f (taken word mid)) (sym asks) (asked_now word mid (both_taken mid (s.passes.flags ∙ halted.ready.quiet.flags)).1 (free_settled first h mid halted s).obeyed owed);
  still = λ e. ap takes_no_word asks;
  unpublished = λ o e. unpublished;
  steps = at_port (took_exec word) ∷ s.passes.steps;
  are = ap (λ (j : Journal). at_port (took_exec word) ∷ j) s.passes.are;
  inner = s.passes.inner;
  may = (let ends = ends_settled first h mid halted s (halts_by first board (taken word mid) k) in
      ends_taken first word mid owed (s.passes.quiet ∙ halted.ready.quiet.quiet) (s.passes.worked halted.ready.quiet.worked) ends.adds ends.starts ends.tries (halts_by first board (taken word mid) k));
  moves = λ e. inr falls;
}
  where
    falls : number_of first board.flags (taken word mid) < number_of first was h
    falls =
        let zero = ap words_left asks in
        let one = ap words_left none in
        let m = s.passes.changes in
        let p = s.passes.pauses in
        let e = ap (λ (rs : List Reply). one_if (nat_eq (length rs) 0)) s.passes.closed in
        omega (arith, zero, one, m, p, e)
