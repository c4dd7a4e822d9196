-- What is next is done: what the rules ask of it, and how the turn ends by it.
use Rattle.std.proofs.Common.{◌-◌, ◌≡◌, ℕ, ◌+◌, ◌≤◌, ◌<◌, inl, inr, Bool, true, false, cond, nat_lt, ◌&&◌, ◌||◌, ◌⊎◌, List, [], ◌∷◌, ◌++◌, length, drop, nat_eq, sym, refl, ap, ◌∙◌, subst, arith, not}
use Rattle.board_rules.specs.Within.{tells_none, last_three, tries_ahead, ahead, work_ahead}
use Rattle.std.specs.List.{list_any}
use Rattle.outside.specs.declared.On.TheVariants.{Byte, ReplyRoom}
use Rattle.outside.specs.declared.Turn.TheVariants.{Did, Wait}
use Rattle.feed_hold.specs.declared.Motion.TheVariants.{Idle}
use Rattle.feed_hold.specs.Motions.Call.{on_start}
use Rattle.board_machine.specs.Machines.{StandsOrGoes, start_motion}
use Rattle.planner_runs.specs.declared.Action.TheVariants.{Mark}
use Rattle.step_line.specs.declared.Mark.{Mark as AnyMark}
use Rattle.step_line.specs.declared.Piece.{Piece}
use Rattle.step_line.specs.declared.planned_move.PlannedMove.{PlannedMove}
use Rattle.status_report.specs.declared.Reply.{Reply}
use Rattle.status_report.specs.declared.Reply.TheVariants.{Bye}
use Rattle.board_journal.specs.Openings.{Opening}
use Rattle.run_rules.specs.Work.{Task, pauses, closing_work}
use Rattle.run_rules.specs.Work.Task.{ask, tell, pause, normal, finish, halt}
use Rattle.step_line.specs.Asking.Asked.{a_move, a_mark, a_rest}
use Rattle.line_interpreter.specs.Lefts.{IsTodo}
use Rattle.line_interpreter.specs.declared.tasks.Todo.TheVariants as todo
use Rattle.board_journal.specs.Ports.PortStep.{took, found_empty, found_closed, no_reply_room, answered}
use Rattle.board_journal.specs.Steps.{Journal, has_limited, left_of, plan_of, motion_of, whole_of, has_closed}
use Rattle.board_journal.specs.Steps.Step.{at_port, did, made_end, closing}
use Rattle.board_rules.specs.Turns.{this_turn, found_none, found_nothing, tells_next, awaits_motion, begins_in, halts_next, needs_motion, is_held_up, is_halting, is_limited, is_locked, stands_still, is_full, has_blocks, has_segment, has_jogged, is_due, tries_of, only_replies, counts_tries, are_many, is_reply_back}
use Rattle.board_rules.specs.Conduct.{Conducted, IsLocked, AreWaiting, IsNextTask, MayPoll, MayStart, MayClose}
use Rattle.board_rules.proofs.Tasks.{none_next, head_is}
use Rattle.units.specs.Truths.{one_if}
use Rattle.board_turns.specs.declared.board.Board.{Board}
use Rattle.board_turns.specs.declared.board.Flags.{Flags}
use Rattle.board_turns.specs.declared.board.Flags.TheVariants as words
use Rattle.board_turns.specs.Boards.{Keeps, Rounds, NoneWaits, GoingBetween, IsFree, TakesFlags, number_of}
use Rattle.board_turns.specs.Turning.{IsNextMove, IsQuiet, IsReady, IsHeldUp, HasPiece, HasPolled, MayRun, MayAwait, MayFinish, IsWholeLine, NeedsNoWait, GoesOn, LetsLines, PassesNothing, BoardWorked, starting}
use Rattle.board_rules.proofs.Alarms.{limited_alarmed}
use Rattle.board_turns.proofs.Begins.{still_is}
use Rattle.board_turns.proofs.Steps.{is_next, begins_by, calm_now, halts_by}
use Rattle.board_turns.proofs.PortSteps.{not_told}
use Rattle.board_rules.proofs.Facts.{and_false, not_whole, uncounted, uncounted_behind, unmissed, none_awaited, none_asked, none_by_bye}
use Rattle.board_rules.proofs.Marks.{none_behind_mark}
use Rattle.board_rules.proofs.Polling.{none_polled, none_told}
use Rattle.board_rules.proofs.Ahead.{ahead_most, ahead_less, ahead_partial, replies_behind, three_at_most}
use Rattle.board_rules.proofs.Tries.{publishes_none, publishes_one, worked_behind, passes_did, passes_end, passes_motion, takes_back, takes_one, none_spoken}
use Rattle.board_turns.proofs.Standing.{full_is_queued, goes_or_stands}
use Rattle.board_turns.proofs.Starting.{none_left_to_change, starts_off, full_is}
use Rattle.board_rules.proofs.Lasts.{IsClosing}
use Rattle.board_turns.proofs.Ends.{none_called, none_waited, rounds_still, takes_none, ready_sent, ready_idle, may_await, free_of, no_word_left}
use Rattle.board_rules.proofs.Opening.{opened}

-- ---- how a turn begins

-- where it does not begin with a piece, what is next may be done
pub ready_now : (first : Opening) (published : Bool) (h : Journal) → Rounds first published h → GoingBetween h → IsFree h → (published ≡ false → HasPiece first h → ⊥) → IsReady first h
ready_now first true h r between taken none = ready_sent first h r between taken
ready_now first false h r between taken none =
    let idle : is_due first h ≡ false = by_due (is_due first h) refl in
    ready_idle first h r between taken idle (unmissed first h between idle)
  where
    by_due : (b : Bool) → is_due first h ≡ b → is_due first h ≡ false
    by_due true e = absurd (none refl (inr e))
    by_due false e = e

-- ---- something is left to do

pub some_next : (first : Opening) (h : Journal) (t : Task) → IsNextTask first t h → left_of first h ≡ [] → ⊥
some_next first h t next none = none_next (left_of first h) t none next

-- ---- a reply that is next

-- few tries stand behind the last poll where it was told, and where it was handed back
few_of_replies : (r : Reply) (us : List Task) (back : Bool) (tries : ℕ) → tries + (last_three (tell r ∷ us) - one_if back) ≤ 5 → (back ≡ true → tries + (last_three (tell r ∷ us) - one_if back) ≤ 4)
    → (cond (are_many (tell r ∷ us) && nat_lt 1 tries) (tries - 1) tries + (last_three us - 0) ≤ 4) × (tries + (last_three (tell r ∷ us) - 1) ≤ 4)
few_of_replies r [] true tries most few = let less = few refl in (omega (arith, less), omega (arith, less))
few_of_replies r [] false tries most few = (omega (arith, most), omega (arith, most))
few_of_replies r (q ∷ []) true tries most few = let less = few refl in (omega (arith, less), omega (arith, less))
few_of_replies r (q ∷ []) false tries most few = (omega (arith, most), omega (arith, most))
few_of_replies r (q ∷ p ∷ []) true tries most few = let less = few refl in (omega (arith, less), omega (arith, less))
few_of_replies r (q ∷ p ∷ []) false tries most few = (omega (arith, most), omega (arith, most))
few_of_replies r (q ∷ p ∷ o ∷ us) true tries most few = let less = few refl in let one = takes_one tries (omega (arith, less)) in (omega (arith, one), omega (arith, less))
few_of_replies r (q ∷ p ∷ o ∷ us) false tries most few = let one = takes_one tries (omega (arith, most)) in (omega (arith, one), omega (arith, most))

few_by_rest : (r : Reply) (us : List Task) (only now back : Bool) (tries : ℕ) → (only ≡ true → now ≡ true) → tries + cond only (last_three (tell r ∷ us) - one_if back) 3 ≤ 5
    → ((not back && only) ≡ false → tries + cond only (last_three (tell r ∷ us) - one_if back) 3 ≤ 4)
    → (cond (are_many (tell r ∷ us) && nat_lt 1 tries) (tries - 1) tries + cond now (last_three us - 0) 3 ≤ 4) × (tries + cond only (last_three (tell r ∷ us) - 1) 3 ≤ 4)
few_by_rest r us true true back tries then most few = few_of_replies r us back tries most (λ e. few (ap (λ b. not b && true) e))
few_by_rest r us true false back tries then most few = absurd (let e = then refl in cc)
few_by_rest r us false true back tries then most few = let less = few (and_false (not back) false refl) in let fewer = takes_back (are_many (tell r ∷ us) && nat_lt 1 tries) tries in let three = three_at_most us in (omega (arith, less, fewer, three), omega (arith, less))
few_by_rest r us false false back tries then most few = let less = few (and_false (not back) false refl) in let fewer = takes_back (are_many (tell r ∷ us) && nat_lt 1 tries) tries in (omega (arith, less, fewer), omega (arith, less))

few_by_reply : (ts : List Task) (back : Bool) (tries : ℕ) → tells_next ts ≡ true → tries + work_ahead ts back ≤ 5 → (counts_tries ts back ≡ false → tries + work_ahead ts back ≤ 4)
    → (cond (are_many ts && nat_lt 1 tries) (tries - 1) tries + work_ahead (drop 1 ts) false ≤ 4) × (tries + work_ahead ts true ≤ 4)
few_by_reply [] back tries tells most few = absurd cc
few_by_reply (tell r ∷ ts) back tries tells most few = few_by_rest r ts (only_replies (tell r ∷ ts)) (only_replies ts) back tries (replies_behind (tell r ∷ ts)) most few
few_by_reply (ask a ∷ ts) back tries tells most few = absurd cc
few_by_reply (pause ∷ ts) back tries tells most few = absurd cc
few_by_reply (normal ∷ ts) back tries tells most few = absurd cc
few_by_reply (finish ∷ ts) back tries tells most few = absurd cc
few_by_reply (halt ∷ ts) back tries tells most few = absurd cc

record FewBehind (first : Opening) (h : Journal) : Type 0 where
  partial : whole_of h ≡ false
  both : (cond (are_many (left_of first h) && nat_lt 1 (tries_of first h)) (tries_of first h - 1) (tries_of first h) + work_ahead (drop 1 (left_of first h)) false ≤ 4) × (tries_of first h + work_ahead (left_of first h) true ≤ 4)

few_behind : (first : Opening) (h : Journal) (r : Reply) → Conducted first h → IsReady first h → IsNextTask first (tell r) h → FewBehind first h
few_behind first h r c ready next =
    let partial = not_whole first h c (some_next first h (tell r) next) in
    let same = ahead_partial (left_of first h) (whole_of h) (is_reply_back h) partial in
    let most = ready.tries in
    record {
      partial = partial;
      both =
          few_by_reply (left_of first h) (is_reply_back h) (tries_of first h) (ap tells_next next) (omega (arith, most, same))
          (λ none. let few = ready.few (uncounted_behind first h ready.quiet.unowed none) in omega (arith, few, same));
    }

pub few_told : (first : Opening) (h : Journal) (r q : Reply) → Conducted first h → IsReady first h → IsNextTask first (tell r) h → tries_of first (at_port (answered q) ∷ h) + tries_ahead first (at_port (answered q) ∷ h) ≤ 4
few_told first h r q c ready next =
    let few = few_behind first h r c ready next in
    let same = ahead_partial (drop 1 (left_of first h)) (whole_of h) false few.partial in
    let four = few.both.0 in
    omega (arith, four, same)

few_handed_back : (first : Opening) (h : Journal) (r : Reply) → Conducted first h → IsReady first h → IsNextTask first (tell r) h → tries_of first (at_port no_reply_room ∷ h) + tries_ahead first (at_port no_reply_room ∷ h) ≤ 4
few_handed_back first h r c ready next =
    let few = few_behind first h r c ready next in
    let back = ap (λ o. ahead (left_of first h) (whole_of h) (not o || is_reply_back h)) ready.quiet.unowed in
    let same = ahead_partial (left_of first h) (whole_of h) true few.partial in
    let four = few.both.1 in
    omega (arith, four, same, back)

-- ---- moves

-- what is next of a machine that is held, or slows down for that, is not held up: so no move has no room
held_up_full : (ts : List Task) (m : PlannedMove) (whole full : Bool) → ts ≡ ask (a_move m) ∷ drop 1 ts → full ≡ true → needs_motion ts whole full ≡ true
held_up_full [] m whole full next is = absurd cc
held_up_full (ask (a_move m) ∷ ts) n whole full next is = is
held_up_full (ask (a_mark m) ∷ ts) n whole full next is = absurd (let e = head_is (ask (a_mark m) ∷ ts) (ask (a_move n)) (ask (a_mark m)) ts next refl in cc)
held_up_full (ask a_rest ∷ ts) n whole full next is = refl
held_up_full (tell r ∷ ts) n whole full next is = absurd (let e = head_is (tell r ∷ ts) (ask (a_move n)) (tell r) ts next refl in cc)
held_up_full (pause ∷ ts) n whole full next is = refl
held_up_full (normal ∷ ts) n whole full next is = refl
held_up_full (finish ∷ ts) n whole full next is = refl
held_up_full (halt ∷ ts) n whole full next is = refl

not_halting : (first : Opening) (h : Journal) → GoesOn first h → is_held_up first h ≡ true → begins_in (motion_of first h) ≡ true
not_halting first h goes up = by_halt (is_halting (motion_of first h)) refl
  where
    by_halt : (b : Bool) → is_halting (motion_of first h) ≡ b → begins_in (motion_of first h) ≡ true
    by_halt true e = absurd (let f = sym (goes.held e) ∙ up in cc)
    by_halt false e = begins_by (motion_of first h) e goes.unlimited

-- a full plan is run
pub full_piece : (first : Opening) (h : Journal) → Conducted first h → NoneWaits first h → GoesOn first h → IsNextMove first h → is_full first.blocks (plan_of h) ≡ true → HasPiece first h
full_piece first h c none goes move full = inr (by_motion (goes_or_stands (motion_of first h) (not_halting first h goes (held_up_full (left_of first h) move.0 (whole_of h) (is_full first.blocks (plan_of h)) move.1 full))))
  where
    blocks : has_blocks (plan_of h).blocks ≡ true
    blocks = full_is_queued first.blocks (plan_of h).blocks (opened first h c).sized.0 full

    full_too : (a b : Bool) → a ≡ true → (a || b) ≡ false → is_due first h ≡ true
    full_too true b ea e = absurd cc
    full_too false b ea e = absurd cc

    by_motion : StandsOrGoes (motion_of first h) → is_due first h ≡ true
    by_motion (inl idle) = full_too (is_full first.blocks (plan_of h)) (awaits_motion (left_of first h) || has_jogged h) full (none (record { stands = idle; blocks = blocks }))
    by_motion (inr (inl run)) = ap (λ m. has_segment m (plan_of h)) run ∙ blocks
    by_motion (inr (inr jog)) = ap (λ m. has_segment m (plan_of h)) jog ∙ blocks

-- ---- lines

none_left : {N : ℕ} (first : Opening) (b : Board N) (h : Journal) → Keeps first b h → b.lines.left ≡ [] → left_of first h ≡ []
none_left first b h k none = sym k.lines.left_is ∙ none

-- what is next where nothing is left is a line that was taken whole
held_up_line : (ts : List Task) (whole full : Bool) → ts ≡ [] → whole ≡ true → needs_motion ts whole full ≡ true
held_up_line [] whole full none is = is
held_up_line (t ∷ ts) whole full none is = absurd cc

pub whole_line : {N : ℕ} (first : Opening) (b : Board N) (h : Journal) → Keeps first b h → LetsLines first h → b.lines.left ≡ [] → b.closing ≡ false → b.input.whole ≡ true → IsWholeLine first h
whole_line first b h k goes none open_yet whole =
    let free = none_left first b h k none in
    let is = sym k.input.whole_is ∙ whole in
    record { free = free; going = k.going open_yet; whole = is; goes = goes.begins free is }

either_true : (a b : Bool) → a ≡ true → (a || b) ≡ true
either_true true b is = refl
either_true false b is = absurd cc

pub lets_lines : {N : ℕ} (first : Opening) (b : Board N) (h : Journal) → Keeps first b h → GoesOn first h → LetsLines first h
lets_lines first b h k goes = record {
  calm = calm_now first b h k goes.unlimited;
  begins = λ free whole. either_true (begins_in (motion_of first h)) (is_locked first h) (not_halting first h goes (held_up_line (left_of first h) (whole_of h) (is_full first.blocks (plan_of h)) free whole));
}

-- so does a machine that is locked
pub lets_locked : {N : ℕ} (first : Opening) (b : Board N) (h : Journal) → Keeps first b h → is_limited (motion_of first h) ≡ true → b.alarmed ≡ false → LetsLines first h
lets_locked first b h k is none = record { calm = calm; begins = λ free whole. by_cause (limited_alarmed first h k.conducted is) }
  where
    calm : has_limited h ≡ false
    calm = sym k.alarmed_is ∙ none

    or_locked : (a b : Bool) → b ≡ true → (a || b) ≡ true
    or_locked true b is = refl
    or_locked false b is = is

    by_cause : (has_limited h ≡ true) ⊎ IsLocked first h → (begins_in (motion_of first h) || is_locked first h) ≡ true
    by_cause (inl one) = absurd (let e = sym one ∙ calm in cc)
    by_cause (inr locked) = or_locked (begins_in (motion_of first h)) (is_locked first h) (still_is first h k.unlocked calm locked.1)

-- a byte may be polled for where no line waits to be begun
pub may_poll : {N : ℕ} (first : Opening) (b : Board N) (h : Journal) → Keeps first b h → IsReady first h → LetsLines first h → b.lines.left ≡ [] → b.closing ≡ false → b.input.whole ≡ false → MayPoll first h
may_poll first b h k ready goes none open_yet partial = record {
  once = none_polled (this_turn h) ready.quiet.still ready.unpolled;
  calm = goes.calm;
  all_done = none_left first b h k none;
  partial = sym k.input.whole_is ∙ partial;
  unclosed = k.going open_yet;
}

-- what is next is held up as the fields tell
held_up : {N : ℕ} (first : Opening) (b : Board N) (h : Journal) → Keeps first b h → is_held_up first h ≡ needs_motion b.lines.left b.input.whole (is_full (N - 1) b.machine.plan)
held_up first b h k =
    ap (λ (ts : List Task). needs_motion ts (whole_of h) (is_full first.blocks (plan_of h))) (sym k.lines.left_is) ∙ ap (λ w. needs_motion b.lines.left w (is_full first.blocks (plan_of h))) (sym k.input.whole_is)
    ∙ ap (λ t. needs_motion b.lines.left b.input.whole t) (sym (full_is first b h k))

-- what is next is held up by a machine that is held, or slows down for that
pub is_halted : {N : ℕ} (first : Opening) (b : Board N) (h : Journal) → Keeps first b h → IsReady first h → is_halting b.machine.hold.motion ≡ true → needs_motion b.lines.left b.input.whole (is_full (N - 1) b.machine.plan) ≡ true → IsHeldUp first h
is_halted first b h k ready halts up = record { ready = ready; halts = ap is_halting (sym k.machine.motion_is) ∙ halts; held_up = held_up first b h k ∙ up }

-- what is next goes on, by the fields
pub goes_on : {N : ℕ} (first : Opening) (b : Board N) (h : Journal) → Keeps first b h → (is_halting b.machine.hold.motion ≡ true → needs_motion b.lines.left b.input.whole (is_full (N - 1) b.machine.plan) ≡ false) → is_limited b.machine.hold.motion ≡ false → GoesOn first h
goes_on first b h k held other = record {
  held = λ halts. (held_up first) b h k ∙ held (ap is_halting k.machine.motion_is ∙ halts);
  unlimited = ap is_limited (sym k.machine.motion_is) ∙ other;
}

-- ---- a machine that is held, or slows down for that

-- what waits for the motion is held up
held_up_awaited : (ts : List Task) (whole full : Bool) → awaits_motion ts ≡ true → needs_motion ts whole full ≡ true
held_up_awaited [] whole full is = absurd cc
held_up_awaited (ask (a_move m) ∷ ts) whole full is = absurd cc
held_up_awaited (ask (a_mark m) ∷ ts) whole full is = absurd cc
held_up_awaited (ask a_rest ∷ ts) whole full is = refl
held_up_awaited (tell r ∷ ts) whole full is = absurd cc
held_up_awaited (pause ∷ ts) whole full is = refl
held_up_awaited (normal ∷ ts) whole full is = refl
held_up_awaited (finish ∷ ts) whole full is = refl
held_up_awaited (halt ∷ ts) whole full is = refl

-- so the motion may be waited for where what is next goes on
pub may_await_now : {N : ℕ} (first : Opening) (b : Board N) (h : Journal) → Keeps first b h → IsReady first h → GoesOn first h → awaits_motion (left_of first h) ≡ true → MayAwait first h
may_await_now first b h k ready goes awaits = may_await first h ready (not_halting first h goes (held_up_awaited (left_of first h) (whole_of h) (is_full first.blocks (plan_of h)) awaits)) awaits

-- ---- what is next, by the fields

pub finish_next : {N : ℕ} (first : Opening) (b : Board N) (h : Journal) → Keeps first b h → NeedsNoWait first h → IsTodo todo.Finish b.lines.left → MayFinish first h × IsNextTask first finish h
finish_next first b h k needs is =
    let next = is_next first b h finish k is in
    let stopped = (needs (ap awaits_motion next)).0 in
    (record { drained = stopped.drained; stands = ap stands_still stopped.stands }, next)

-- ---- marks and the end

pub none_behind : (ps : List Piece) (p : Piece) → ps ++ p ∷ [] ≡ [] → ⊥
none_behind [] p e = absurd cc
none_behind (q ∷ ps) p e = absurd cc

pub quiet_on : (first : Opening) (h next : Journal) → IsQuiet h → PassesNothing first h next → IsQuiet next
quiet_on first h next quiet passes = record {
  still = passes.still ∙ quiet.still;
  quiet = passes.quiet ∙ quiet.quiet;
  worked = passes.worked quiet.worked;
  flags = passes.flags ∙ quiet.flags;
  unowed = passes.owed ∙ quiet.unowed;
  untold = passes.replies ∙ quiet.untold;
}

pub may_run_marked : (first : Opening) (h : Journal) (m : AnyMark) (ps : List Piece) → Conducted first h → IsReady first h → IsNextTask first (ask (a_mark m)) h → MayRun first (did (Mark m) ps ∷ h)
may_run_marked first h m ps c ready next =
    let passes = passes_did first (Mark m) ps h refl in
    let none = none_behind_mark first h m c next in
    let few = ready.few (uncounted first h (none_asked (left_of first h) (a_mark m) next)) in
    let more = passes.ahead in
    let same = passes.tries in
    record {
      quiet = quiet_on first h (did (Mark m) ps ∷ h) ready.quiet passes;
      polled = λ e. absurd (let f = sym e ∙ passes.polled ∙ ready.unpolled in cc);
      once = λ e. absurd (let f = sym e ∙ uncounted first (did (Mark m) ps ∷ h) none in cc);
      few = λ e. omega (arith, few, more, same);
      unspoken = none_spoken (drop 1 (left_of first h)) none;
    }

pub may_run_ended : (first : Opening) (h : Journal) → MayRun first h → MayFinish first h → IsNextTask first finish h → IsClosing first h → MayRun first (made_end ∷ h)
may_run_ended first h may stopped next is =
    let passes = passes_end first h in
    let bye = none_by_bye (drop 1 (left_of first h)) Bye refl (is.later ∙ ap (λ (ts : List Task). tell Bye ∷ drop 1 ts) (sym is.later)) in
    let few = may.few (uncounted first h (none_awaited (left_of first h) (ap awaits_motion next))) in
    let more = passes.ahead in
    let same = passes.tries in
    record {
      quiet = quiet_on first h (made_end ∷ h) may.quiet passes;
      polled = λ e. (
        λ waiting. absurd (let f = sym waiting.blocks ∙ ap has_blocks stopped.drained.plan.blocks in cc),
        λ m. absurd (let f = head_is (drop 1 (left_of first h)) (ask (a_move m.0)) (tell Bye) [] m.1 is.later in cc),
      );
      once = λ e. absurd (let n = sym e ∙ uncounted first (made_end ∷ h) bye in cc);
      few = λ e. omega (arith, few, more, same);
      unspoken = none_spoken (drop 1 (left_of first h)) bye;
    }

-- ---- replies

-- a reply was handed back
pub told_later : {N : ℕ} (first : Opening) (was : Flags) (board : Board N) (h : Journal) (r : Reply) → Keeps first board h → IsReady first h → IsNextTask first (tell r) h → board.published ≡ false → board.flags ≡ words.None
    → BoardWorked first (Wait ReplyRoom) was board h (at_port no_reply_room ∷ h)
told_later first was board h r k ready next unpublished no_word =
    let worked = worked_behind (at_port no_reply_room) h (at_port no_reply_room ∷ h) refl (record { no_changes = refl; none_planned = refl }) refl refl ready.quiet.worked in
    let few = few_handed_back first h r k.conducted ready next in
    let free = free_of h ready.quiet in
    let none : NoneWaits first (at_port no_reply_room ∷ h) = (λ waiting. ready.none_waits (record { stands = waiting.stands; blocks = waiting.blocks })) in
    record {
      keeps = not_told first board h k (ap tells_next next) (none_told (this_turn h) ready.quiet.still ready.quiet.untold);
      rounds = subst (λ b. (Rounds first) b (at_port no_reply_room ∷ h)) (sym unpublished) (rounds_still first (at_port no_reply_room ∷ h) none few);
      flags = takes_none board (at_port no_reply_room ∷ h) no_word (record { flags = free.flags; obeyed = free.obeyed; unowed = free.unowed });
      still = λ e. no_word_left board.flags no_word;
      unpublished = λ o e. unpublished;
      steps = at_port no_reply_room ∷ [];
      are = refl;
      inner = refl;
      may = record {
        ends = record {
          once = (let a = publishes_none (at_port no_reply_room) (this_turn h) refl in let q = ready.quiet.quiet in omega arith);
          adds = λ m e. absurd (let f = head_is (left_of first h) (ask (a_move m)) (tell r) _ e next in cc);
          starts = none_called first (at_port no_reply_room ∷ h) ready.unpolled none;
          tries = omega arith;
          obeyed = worked.obeyed;
          changed = worked.changed;
          halts = halts_by first board h k;
        };
        cause = refl;
        still = ready.quiet.still;
        flags = ready.quiet.flags;
        obeyed = free.obeyed;
        unowed = λ e. refl;
        round = λ due. none_waited (at_port no_reply_room ∷ h) ReplyRoom (ready.tried due);
      };
      moves = λ e. absurd cc;
    }

-- ---- bytes

pub took_worked : {N : ℕ} (first : Opening) (was : Flags) (board : Board N) (b : ℕ) (h : Journal) → Keeps first board (at_port (took b) ∷ h) → TakesFlags board.flags (at_port (took b) ∷ h) → IsReady first h → MayPoll first h → board.published ≡ false
    → BoardWorked first Did was board h (at_port (took b) ∷ h)
took_worked first was board b h keeps takes ready may unpublished =
    let none : NoneWaits first (at_port (took b) ∷ h) = (λ waiting. ready.none_waits (record { stands = waiting.stands; blocks = waiting.blocks })) in
    let four = ahead_most (left_of first h) (nat_eq b 10) (is_reply_back h) in
    let worked = worked_behind (at_port (took b)) h (at_port (took b) ∷ h) refl (record { no_changes = refl; none_planned = refl }) refl refl ready.quiet.worked in
    record {
      keeps = keeps;
      rounds = subst (λ t. (Rounds first) t (at_port (took b) ∷ h)) (sym unpublished) (rounds_still first (at_port (took b) ∷ h) none (omega (arith, four)));
      flags = takes;
      still = λ e. absurd (let s = unpublished in cc);
      unpublished = λ o e. unpublished;
      steps = at_port (took b) ∷ [];
      are = refl;
      inner = refl;
      may = record {
        once = (let a = publishes_one (at_port (took b)) (this_turn h) refl in let q = ready.quiet.quiet in omega arith);
        adds = λ m e. absurd (none_next (left_of first h) (ask (a_move m)) may.all_done e);
        starts = none_called first (at_port (took b) ∷ h) ready.unpolled none;
        tries = omega arith;
        obeyed = worked.obeyed;
        changed = worked.changed;
        halts = halts_by first board (at_port (took b) ∷ h) keeps;
      };
      moves = λ e. inl refl;
    }

pub polled_none : (first : Opening) (h : Journal) → IsReady first h → MayPoll first h → HasPolled first (at_port found_empty ∷ h)
polled_none first h ready may = record {
  quiet = record {
    still = ready.quiet.still;
    quiet = publishes_none (at_port found_empty) (this_turn h) refl ∙ ready.quiet.quiet;
    worked = worked_behind (at_port found_empty) h (at_port found_empty ∷ h) refl (record { no_changes = refl; none_planned = refl }) refl refl ready.quiet.worked;
    flags = ready.quiet.flags;
    unowed = ready.quiet.unowed;
    untold = ready.quiet.untold;
  };
  found = refl;
  free = may.all_done;
  going = may.unclosed;
  partial = may.partial;
  tried = ready.tried;
  none_waits = λ waiting. ready.none_waits (record { stands = waiting.stands; blocks = waiting.blocks });
  tries = refl;
}

pub polled_end : (first : Opening) (h : Journal) → IsReady first h → MayPoll first h → HasPolled first (at_port found_closed ∷ h)
polled_end first h ready may = record {
  quiet = record {
    still = ready.quiet.still;
    quiet = publishes_none (at_port found_closed) (this_turn h) refl ∙ ready.quiet.quiet;
    worked = worked_behind (at_port found_closed) h (at_port found_closed ∷ h) refl (record { no_changes = refl; none_planned = refl }) refl refl ready.quiet.worked;
    flags = ready.quiet.flags;
    unowed = ready.quiet.unowed;
    untold = ready.quiet.untold;
  };
  found = refl;
  free = may.all_done;
  going = may.unclosed;
  partial = may.partial;
  tried = ready.tried;
  none_waits = λ waiting. ready.none_waits (record { stands = waiting.stands; blocks = waiting.blocks });
  tries = refl;
}

-- no queued block waits for a start, by the fields
pub none_waiting : {N : ℕ} (first : Opening) (board : Board N) (h : Journal) → Keeps first board h → (board.machine.hold.motion ≡ Idle → has_blocks board.machine.plan.blocks ≡ true → ⊥) → AreWaiting first h → ⊥
none_waiting first board h k none waiting = none (k.machine.motion_is ∙ waiting.stands) (ap (λ p. has_blocks p.blocks) k.machine.plan_is ∙ waiting.blocks)

pub waits_for_byte : {N : ℕ} (first : Opening) (was : Flags) (board : Board N) (h : Journal) → Keeps first board h → HasPolled first h → list_any found_nothing (this_turn h) ≡ true → (AreWaiting first h → ⊥) → board.published ≡ false → board.flags ≡ words.None
    → BoardWorked first (Wait Byte) was board h h
waits_for_byte first was board h k polled found none unpublished no_word =
    let t = polled.tries in
    let w = ahead_most (left_of first h) (whole_of h) (is_reply_back h) in
    record {
      keeps = k;
      rounds = subst (λ b. (Rounds first) b h) (sym unpublished) (rounds_still first h (λ waiting. absurd (none waiting)) (omega (arith, t, w)));
      flags = takes_none board h no_word (free_of h polled.quiet);
      still = λ e. no_word_left board.flags no_word;
      unpublished = λ o e. unpublished;
      steps = [];
      are = refl;
      inner = refl;
      may = record {
        ends = record {
          once = (let q = polled.quiet.quiet in omega arith);
          adds = λ m e. absurd (none_next (left_of first h) (ask (a_move m)) polled.free e);
          starts = λ waiting. absurd (none waiting);
          tries = omega arith;
          obeyed = polled.quiet.worked.obeyed;
          changed = polled.quiet.worked.changed;
          halts = halts_by first board h k;
        };
        cause = record { poll = found; free = polled.free; partial = polled.partial; unowed = polled.quiet.unowed };
        still = polled.quiet.still;
        flags = polled.quiet.flags;
        obeyed = polled.quiet.worked.obeyed polled.quiet.unowed;
        unowed = λ e. absurd (let f = sym e ∙ polled.quiet.unowed in cc);
        round = λ due. none_waited h Byte (polled.tried due);
      };
      moves = λ e. absurd cc;
    }

-- a machine that stands starts
pub started_passes : (first : Opening) (jog : Bool) (h : Journal) → PassesNothing first h (starting jog h)
started_passes first jog h = passes_motion first (on_start jog) (start_motion jog) h refl (none_left_to_change first jog h)

called : (a b d : Bool) → a ≡ true → ((a || b) || d) ≡ true
called true b d e = refl
called false b d e = absurd cc

-- queued blocks start where a poll found no byte
pub may_start_polled : {N : ℕ} (first : Opening) (board : Board N) (h : Journal) → Keeps first board h → HasPolled first h → has_blocks board.machine.plan.blocks ≡ true → MayStart first board.jogged h
may_start_polled first board h k polled blocks = record {
  goes = ap halts_next polled.free;
  blocks = sym (ap (λ p. has_blocks p.blocks) k.machine.plan_is) ∙ blocks;
  called = called (list_any found_none (this_turn h)) _ _ polled.found;
  jogs = sym k.jogged_is;
}

pub may_run_started : (first : Opening) (jog : Bool) (h : Journal) → HasPolled first h → MayRun first (starting jog h)
may_run_started first jog h polled =
    let passes = started_passes first jog h in
    let t = polled.tries in
    let w = ahead_less (left_of first h) (whole_of h) (is_reply_back h) polled.partial in
    record {
      quiet = quiet_on first h (starting jog h) polled.quiet passes;
      polled = λ e. (λ waiting. starts_off jog waiting.stands, λ m. none_next (left_of first h) (ask (a_move m.0)) polled.free m.1);
      once = λ e. omega (arith, t, w);
      few = λ e. omega (arith, t, w);
      unspoken = ap tells_none polled.free;
    }

-- a segment is due behind a start
pub started_due : (first : Opening) (jog : Bool) (h : Journal) → has_blocks (plan_of h).blocks ≡ true → is_due first (starting jog h) ≡ true
started_due first false h some = some
started_due first true h some = some

-- ---- the run is closed

pub may_close : (first : Opening) (h : Journal) → HasPolled first h → has_closed h ≡ true → MayClose first h
may_close first h polled closed = record { free = polled.free; going = polled.going; begun = polled.partial; closed = inl closed }

-- the board's number falls by that
closing_falls : (first : Opening) (f : Flags) (h : Journal) → HasPolled first h → number_of first f (closing ∷ h) < number_of first f h
closing_falls first f h polled =
    let p = ap pauses polled.free in
    let c = ap (λ (rs : List Reply). one_if (nat_eq (length rs) 0)) polled.going in
    let d = ap (λ (rs : List Reply). one_if (nat_eq (length (rs ++ Bye ∷ [])) 0)) polled.going in
    omega (arith, p, c, d)

pub closes_worked : {N : ℕ} (first : Opening) (board is : Board N) (h : Journal) → Keeps first is (closing ∷ h) → HasPolled first h → (AreWaiting first h → ⊥) → is.published ≡ false → board.flags ≡ words.None → is.flags ≡ words.None
    → BoardWorked first Did board.flags is h (closing ∷ h)
closes_worked first board is h keeps polled none unpublished no_word_was no_word =
    let none_now : AreWaiting first (closing ∷ h) → ⊥ = (λ waiting. none (record { stands = waiting.stands; blocks = waiting.blocks })) in
    let t = polled.tries in
    let w = ahead_most closing_work (whole_of h) (is_reply_back h) in
    let free = free_of h polled.quiet in
    let worked = worked_behind closing h (closing ∷ h) refl (record { no_changes = refl; none_planned = refl }) refl refl polled.quiet.worked in
    record {
      keeps = keeps;
      rounds = subst (λ b. (Rounds first) b (closing ∷ h)) (sym unpublished) (rounds_still first (closing ∷ h) (λ waiting. absurd (none_now waiting)) (omega (arith, t, w)));
      flags = takes_none is (closing ∷ h) no_word (record { flags = free.flags; obeyed = free.obeyed; unowed = free.unowed });
      still = λ e. no_word_left is.flags no_word;
      unpublished = λ o e. unpublished;
      steps = closing ∷ [];
      are = refl;
      inner = refl;
      may = record {
        once = (let a = publishes_none closing (this_turn h) refl in let q = polled.quiet.quiet in omega arith);
        adds = λ m e. absurd cc;
        starts = λ waiting. absurd (none_now waiting);
        tries = omega arith;
        obeyed = worked.obeyed;
        changed = worked.changed;
        halts = λ e. absurd cc;
      };
      moves = λ e. inr (subst (λ f. (number_of first) f (closing ∷ h) < number_of first board.flags h) (no_word_was ∙ sym no_word) (closing_falls first board.flags h polled));
    }
