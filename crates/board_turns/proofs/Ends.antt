-- How a turn ends: by what was done in it its answer is allowed, and what holds between two turns holds again.
use Rattle.std.proofs.Common.{◌≡◌, ℕ, ◌+◌, ◌≤◌, ◌<◌, ◌⊎◌, inl, inr, Bool, true, false, ◌||◌, List, [], ◌∷◌, ◌++◌, length, nat_eq, drop, sym, refl, ap, ◌∙◌, subst, arith, append_assoc}
use Rattle.board_rules.specs.Within.{tries_ahead}
use Rattle.std.specs.List.{list_any, count_by, Contains}
use Rattle.outside.specs.declared.On.{On}
use Rattle.outside.specs.declared.On.TheVariants.{SegmentRoom}
use Rattle.outside.specs.declared.Turn.{Turn}
use Rattle.outside.specs.declared.Turn.TheVariants.{Did, Wait}
use Rattle.board_journal.specs.Openings.{Opening}
use Rattle.run_rules.specs.Work.{Task, pauses}
use Rattle.run_rules.specs.Work.Task.{ask, tell, pause, normal, finish, halt}
use Rattle.status_report.specs.declared.Reply.{Reply}
use Rattle.step_line.specs.Asking.Asked.{a_move, a_mark, a_rest}
use Rattle.board_journal.specs.Ports.{BoardLog}
use Rattle.board_journal.specs.Steps.{Step, Journal, left_of, plan_of, motion_of, closed_tells}
use Rattle.board_rules.specs.Cuts.{has_cut}
use Rattle.board_rules.specs.Turns.{this_turn, publishing, passing, moving, ends_turn, found_none, lacks_reply_room, unobeyed_of, owes_report, takes_changes, replans, flags_taken, awaits_motion, has_jogged, is_full, begins_in, halts_next, is_halting, is_limited, is_counted, has_blocks, has_segment, is_due, starts_cycle, tries_of, missed_of, waits_of, counts_tries}
use Rattle.board_rules.specs.Conduct.{AreWaiting, IsNextTask}
use Rattle.units.specs.Truths.{one_if}
use Rattle.board_turns.specs.declared.board.Board.{Board}
use Rattle.board_turns.specs.declared.board.Flags.{Flags}
use Rattle.board_turns.specs.declared.board.Flags.TheVariants as words
use Rattle.board_turns.specs.Boards.{Keeps, Rounds, NoneWaits, GoingBetween, IsFree, TakesFlags, takes_no_word, changes_left, number_of}
use Rattle.board_turns.specs.Turning.{IsNextMove, AreWorked, IsQuiet, IsReady, MayRun, MayAwait, HasStopped, NeedsNoWait, GoesOn, PassesNothing, HasFilled, HasTried, BoardWorked, WorksOn}
pub use Rattle.board_turns.proofs.Freeing.{free_of, takes_none, no_word_left, free_passed, free_tried}
use Rattle.board_rules.proofs.Facts.{none_awaited, uncounted}
use Rattle.board_rules.proofs.Tries.{none_ends, none_spoken}
use Rattle.board_turns.proofs.Steps.{other_published, halts_by, none_halts}

-- ---- what follows

-- the board's number is no greater behind steps that pass nothing
pub no_greater : (first : Opening) (was : Flags) (h next : Journal) → pauses (left_of first next) ≤ pauses (left_of first h) → changes_left (motion_of first next) (has_cut next) ≤ changes_left (motion_of first h) (has_cut h) → closed_tells next ≡ closed_tells h
    → number_of first was next ≤ number_of first was h
no_greater first was h next fewer slower same = let s = ap (λ (rs : List Reply). one_if (nat_eq (length rs) 0)) same in omega (arith, fewer, slower, s)

pub number_passes : (first : Opening) (was : Flags) (h next : Journal) → PassesNothing first h next → number_of first was next ≤ number_of first was h
number_passes first was h next p = no_greater first was h next p.pauses p.changes p.closed

no_more : (n : ℕ) → n ≤ n
no_more n = omega arith

pub number_tried : (first : Opening) (was : Flags) (p : Bool) (h next : Journal) → HasTried first p h next → number_of first was next ≤ number_of first was h
number_tried first was p h next t =
    no_greater first was h next (subst (λ (ts : List Task). pauses ts ≤ pauses (left_of first h)) (sym t.left) (no_more (pauses (left_of first h))))
    (let m = ap (λ m. changes_left m (has_cut next)) t.motion in let c = ap (changes_left (motion_of first h)) t.cuts in omega (arith, m, c)) t.closed

-- what a board has worked up to an answer behind further steps
pub worked_on : {N : ℕ} (first : Opening) (t : Turn) (was : Flags) (board : Board N) (h mid next : Journal) (steps : List Step) → mid ≡ steps ++ h → list_any ends_turn steps ≡ false → number_of first was mid ≤ number_of first was h → BoardWorked first t was board mid next
    → BoardWorked first t was board h next
worked_on first t was board h mid next steps is inner fewer w = record {
  keeps = w.keeps;
  rounds = w.rounds;
  flags = w.flags;
  still = w.still;
  unpublished = w.unpublished;
  steps = w.steps ++ steps;
  are = w.are ∙ ap (λ (x : Journal). w.steps ++ x) is ∙ sym (append_assoc w.steps steps h);
  inner = none_ends w.steps steps w.inner inner;
  may = w.may;
  moves = λ e. further (w.moves e);
}
  where
    further : (list_any moving (this_turn next) ≡ true) ⊎ (number_of first board.flags next < number_of first was mid) → (list_any moving (this_turn next) ≡ true) ⊎ (number_of first board.flags next < number_of first was h)
    further (inl moved) = inl moved
    further (inr falls) = inr (omega (arith, falls, fewer))

pub works_on : {N : ℕ} (first : Opening) (stands : BoardLog → Type 0) (t : Turn) (was : Flags) (board : Board N) (h mid : Journal) (steps : List Step) → mid ≡ steps ++ h → list_any ends_turn steps ≡ false → number_of first was mid ≤ number_of first was h
    → WorksOn first stands t was board mid → WorksOn first stands t was board h
works_on first stands t was board h mid steps is inner fewer w = (w.0, w.1, worked_on first t was board h mid w.0 steps is inner fewer w.2)

-- so it has behind steps that pass nothing
pub works_passed : {N : ℕ} (first : Opening) (stands : BoardLog → Type 0) (t : Turn) (was : Flags) (board : Board N) (h mid : Journal) → PassesNothing first h mid → WorksOn first stands t was board mid → WorksOn first stands t was board h
works_passed first stands t was board h mid p w = works_on first stands t was board h mid p.steps p.are p.inner (number_passes first was h mid p) w

-- ---- truths

or_none : (a b : Bool) → a ≡ false → b ≡ false → (a || b) ≡ false
or_none false b ea eb = eb
or_none true b ea eb = absurd cc

less_or : (a b c : Bool) → (a ≡ true → b ≡ true) → (b || c) ≡ false → (a || c) ≡ false
less_or false false c then none = none
less_or false true c then none = absurd cc
less_or true false c then none = absurd (let e = then refl in cc)
less_or true true c then none = absurd cc

pub one_at_most : (b : Bool) → one_if b ≤ 1
one_at_most true = omega arith
one_at_most false = omega arith

-- ---- the rules of an end

-- no queued block waits for a start that is called for
pub none_called : (first : Opening) (h : Journal) → list_any found_none (this_turn h) ≡ false → NoneWaits first h → AreWaiting first h → starts_cycle first h ≡ false
none_called first h unpolled none waiting = or_none (list_any found_none (this_turn h)) (is_full first.blocks (plan_of h) || (awaits_motion (left_of first h) || has_jogged h)) unpolled (none waiting)

-- what calls for a start is the same with the same plan, the same tasks and the same last line
pub same_calls : (f g : Bool) (ts us : List Task) (j i : Bool) → f ≡ g → ts ≡ us → j ≡ i → (f || (awaits_motion ts || j)) ≡ (g || (awaits_motion us || i))
same_calls f g ts us j i full left jogged = ap (λ b. b || (awaits_motion ts || j)) full ∙ ap (λ (xs : List Task). g || (awaits_motion xs || j)) left ∙ ap (λ b. g || (awaits_motion us || b)) jogged

-- nothing is due where nothing was waited for
pub none_waited : (h : Journal) (o : On) → waits_of h ≡ [] → Contains (waits_of h) o → ⊥
none_waited h o none has = let e = ap length none in let within = has.1 in absurd (omega arith)

pub rounds_still : (first : Opening) (h : Journal) → NoneWaits first h → tries_of first h + tries_ahead first h ≤ 4 → Rounds first false h
rounds_still first h none few = record {
  waits = λ e. absurd cc;
  tried = λ e. absurd cc;
  sent = λ e. absurd cc;
  none_waits = none;
  tries = omega arith;
  few = λ none. few;
  owed = λ e. few;
}

-- ---- a piece that was tried to be published

-- what is known before: nothing was published in this turn, and few tries stand behind the last poll
pub record MayTry (first : Opening) (h : Journal) : Type 0 where
  pub quiet : count_by publishing (this_turn h) ≡ 0
  pub worked : AreWorked h
  pub flags : flags_taken h ≡ true
  pub polled : list_any found_none (this_turn h) ≡ true → (AreWaiting first h → ⊥) × (IsNextMove first h → ⊥)
  pub tries : tries_of first h + tries_ahead first h ≤ 4
  pub owing : owes_report h ≡ true → is_counted first h ≡ false

none_called_behind : (first : Opening) (h mid next : Journal) (p : Bool) → MayTry first h → HasTried first p h mid → HasFilled first mid next → AreWaiting first next → starts_cycle first next ≡ false
none_called_behind first h mid next p may tried filled waiting = by_poll (list_any found_none (this_turn h)) refl
  where
    by_poll : (b : Bool) → list_any found_none (this_turn h) ≡ b → starts_cycle first next ≡ false
    by_poll false e = none_called first next (filled.alone.passes.polled ∙ tried.polled ∙ e) filled.none_waits waiting
    by_poll true e =
        let n = may.polled e in
        let no_move : IsNextMove first mid → ⊥ = (λ m. n.1 (m.0, subst (λ (ts : List Task). ts ≡ ask (a_move m.0) ∷ drop 1 ts) tried.left m.1)) in
        absurd (n.0 (tried.waiting (filled.waiting no_move waiting)))

few_tries : (first : Opening) (h mid next : Journal) (p : Bool) → MayTry first h → HasTried first p h mid → HasFilled first mid next → tries_of first next + tries_ahead first next ≤ 5
few_tries first h mid next p may tried filled =
    let t = filled.alone.passes.tries in
    let a = filled.alone.passes.ahead in
    let s = tried.sum in
    let m = may.tries in
    omega (arith, t, a, s, m)

-- where none was counted they are as few as before, if as much comes
few_uncounted : (first : Opening) (h mid next : Journal) (p : Bool) → HasTried first p h mid → PassesNothing first mid next → is_counted first h ≡ false → tries_ahead first mid ≡ tries_ahead first h → tries_of first h + tries_ahead first h ≤ 4
    → tries_of first next + tries_ahead first next ≤ 4
few_uncounted first h mid next p tried passes none as_much few =
    let t = passes.tries in
    let a = passes.ahead in
    let f = tried.later none in
    omega (arith, t, a, as_much, f, few)

-- and where none would be counted behind them
few_behind : (first : Opening) (h mid next : Journal) (p : Bool) → HasTried first p h mid → PassesNothing first mid next → is_counted first next ≡ false → tries_of first h + tries_ahead first h ≤ 4 → tries_of first next + tries_ahead first next ≤ 4
few_behind first h mid next p tried passes none few =
    let t = passes.tries in
    let a = passes.ahead in
    let f = tried.behind (passes.counted none) in
    omega (arith, t, a, f, few)

-- ---- a piece that is published

pub sent_by : {N : ℕ} (first : Opening) (was : Flags) (board : Board N) (h mid next : Journal) → MayTry first h → HasTried first true h mid → HasFilled first mid next → Keeps first board next → takes_no_word board.flags ≡ true → TakesFlags board.flags next
    → BoardWorked first Did was (record board { published = true }) h next
sent_by first was board h mid next may tried filled keeps no_word takes =
    let a = filled.alone.passes in
    let tries = few_tries first h mid next true may tried filled in
    let worked = a.worked (tried.worked may.worked) in
    record {
      keeps = other_published first board true next keeps;
      rounds = record {
        waits = λ e. a.waits ∙ tried.waits;
        tried = λ e. a.missed ∙ tried.missed;
        sent = λ e. filled.hand ∙ tried.sent refl;
        none_waits = filled.none_waits;
        tries = omega arith;
        few = λ none. few_behind first h mid next true tried a none may.tries;
        owed = λ owed. let was = sym (a.owed ∙ tried.owed) ∙ owed in few_uncounted first h mid next true tried a (may.owing was) (tried.owing was) may.tries;
      };
      flags = takes;
      still = λ e. no_word;
      unpublished = λ o e. absurd cc;
      steps = a.steps ++ tried.steps;
      are = a.are ∙ ap (λ (x : Journal). a.steps ++ x) tried.are ∙ sym (append_assoc a.steps tried.steps h);
      inner = none_ends a.steps tried.steps a.inner tried.inner;
      may = record {
        once = (let q = tried.quiet in let r = a.quiet in let s = may.quiet in omega arith);
        adds = filled.adds;
        starts = none_called_behind first h mid next true may tried filled;
        tries = omega arith;
        obeyed = worked.obeyed;
        changed = worked.changed;
        halts = halts_by first board next keeps;
      };
      moves = λ e. inl (a.moves (tried.moves refl));
    }

pub sent : {N : ℕ} (first : Opening) (was : Flags) (board : Board N) (h mid next : Journal) → MayTry first h → IsFree h → HasTried first true h mid → HasFilled first mid next → Keeps first board next → board.flags ≡ words.None
    → BoardWorked first Did was (record board { published = true }) h next
sent first was board h mid next may free tried filled keeps none =
    sent_by first was board h mid next may tried filled keeps (no_word_left board.flags none) (takes_none board next none (free_passed first mid next filled.alone.passes (free_tried first true h mid tried free)))

-- what may be run may be tried to be published
by_counted : {A : Type 0} (counted : Bool) → (counted ≡ true → A) → (counted ≡ false → A) → A
by_counted true one more = one refl
by_counted false one more = more refl

pub may_try : (first : Opening) (h : Journal) → MayRun first h → MayTry first h
may_try first h may = record {
  quiet = may.quiet.quiet;
  worked = may.quiet.worked;
  flags = may.quiet.flags;
  polled = may.polled;
  tries = by_counted (is_counted first h) (λ e. let f = may.once e in omega (arith, f)) may.few;
  owing = λ owed. absurd (let e = sym owed ∙ may.quiet.unowed in cc);
}

-- it was handed back, and room for it is waited for
pub handed_back : {N : ℕ} (first : Opening) (was : Flags) (board : Board N) (h mid next : Journal) → MayRun first h → HasTried first false h mid → HasFilled first mid next → Keeps first board next → board.published ≡ false → board.flags ≡ words.None
    → BoardWorked first (Wait SegmentRoom) was board h next
handed_back first was board h mid next may tried filled keeps unpublished no_word =
    let a = filled.alone.passes in
    let try = may_try first h may in
    let w = tried.unspoken may.unspoken in
    let b = a.ahead in
    let t = a.tries in
    let few : tries_of first next + tries_ahead first next ≤ 4 =
    by_counted (is_counted first h) (λ e. let f = tried.once in let m = may.once e in omega (arith, w, b, t, f, m)) (λ e. (few_uncounted first h mid next false tried a e w (may.few e))) in
    let worked = a.worked (tried.worked may.quiet.worked) in
    let free = free_passed first mid next a (free_tried first false h mid tried (free_of h may.quiet)) in
    record {
      keeps = keeps;
      rounds = subst (λ b. (Rounds first) b next) (sym unpublished) (rounds_still first next filled.none_waits few);
      flags = takes_none board next no_word free;
      still = λ e. no_word_left board.flags no_word;
      unpublished = λ o e. unpublished;
      steps = a.steps ++ tried.steps;
      are = a.are ∙ ap (λ (x : Journal). a.steps ++ x) tried.are ∙ sym (append_assoc a.steps tried.steps h);
      inner = none_ends a.steps tried.steps a.inner tried.inner;
      may = record {
        ends = record {
          once = (let q = tried.quiet in let r = a.quiet in let s = may.quiet.quiet in omega arith);
          adds = filled.adds;
          starts = none_called_behind first h mid next false try tried filled;
          tries = omega arith;
          obeyed = worked.obeyed;
          changed = worked.changed;
          halts = halts_by first board next keeps;
        };
        cause = a.room ∙ tried.room refl;
        still = a.still ∙ tried.still refl ∙ may.quiet.still;
        flags = free.flags;
        obeyed = free.obeyed;
        unowed = λ e. absurd (let f = sym e ∙ free.unowed in cc);
        round = λ due. none_waited next SegmentRoom (a.waits ∙ tried.waits);
      };
      moves = λ e. absurd cc;
    }

-- ---- what is next, behind that

-- between two turns nothing was done in this one
pub none_between : (h : Journal) (f : Step → Bool) → GoingBetween h → list_any f (this_turn h) ≡ false
none_between h f between = ap (λ (ss : List Step). list_any f ss) between

pub count_between : (h : Journal) → GoingBetween h → count_by publishing (this_turn h) ≡ 0
count_between h between = ap (λ (ss : List Step). count_by publishing ss) between

pub none_worked : (h : Journal) → GoingBetween h → (owes_report h ≡ false → unobeyed_of h ≡ []) → AreWorked h
none_worked h between obeyed = record {
  obeyed = obeyed;
  changed = ap (λ (ss : List Step). count_by replans ss) between ∙ sym (ap (λ (ss : List Step). count_by takes_changes ss) between);
}

-- nothing is done yet
quiet_between : (h : Journal) → GoingBetween h → IsFree h → IsQuiet h
quiet_between h between free = record {
  still = none_between h passing between;
  quiet = count_between h between;
  worked = none_worked h between (λ e. free.obeyed);
  flags = free.flags;
  unowed = free.unowed;
  untold = none_between h lacks_reply_room between;
}

pub may_try_first : (first : Opening) (h : Journal) → Rounds first false h → GoingBetween h → IsFree h → MayTry first h
may_try_first first h r between free = record {
  quiet = count_between h between;
  worked = none_worked h between (λ e. free.obeyed);
  flags = free.flags;
  polled = λ e. absurd (let n = none_between h found_none between in cc);
  tries = (let t = r.tries in omega (arith, t));
  owing = λ owed. absurd (let e = sym owed ∙ free.unowed in cc);
}

still_none_waits : (first : Opening) (h next : Journal) (p : Bool) → HasTried first p h next → NoneWaits first h → NoneWaits first next
still_none_waits first h next p tried none waiting =
    same_calls (is_full first.blocks (plan_of next)) (is_full first.blocks (plan_of next)) (left_of first next) (left_of first h) (has_jogged next) (has_jogged h) refl tried.left tried.jogged
    ∙ less_or (is_full first.blocks (plan_of next)) (is_full first.blocks (plan_of h)) (awaits_motion (left_of first h) || has_jogged h) tried.full (none (tried.waiting waiting))

-- what was tried first was handed back
pub ready_tried : (first : Opening) (h next : Journal) → Rounds first false h → GoingBetween h → IsFree h → HasTried first false h next → IsReady first next
ready_tried first h next r between free tried =
    let rt = r.tries in
    record {
      quiet = record {
        still = tried.still refl ∙ none_between h passing between;
        quiet = (let q = tried.quiet in let c = count_between h between in omega arith);
        worked = tried.worked (none_worked h between (λ e. free.obeyed));
        flags = tried.flags ∙ free.flags;
        unowed = tried.owed ∙ free.unowed;
        untold = tried.replies ∙ none_between h lacks_reply_room between;
      };
      unpolled = tried.polled ∙ none_between h found_none between;
      tried = λ due. tried.waits;
      unmissed = tried.missed;
      none_waits = still_none_waits first h next false tried r.none_waits;
      tries = (let f = tried.sum in omega (arith, f, rt));
      few = λ none. (let f = tried.behind none in omega (arith, f, rt));
    }

-- the last turn published
pub ready_sent : (first : Opening) (h : Journal) → Rounds first true h → GoingBetween h → IsFree h → IsReady first h
ready_sent first h r between taken = record {
  quiet = quiet_between h between taken;
  unpolled = none_between h found_none between;
  tried = λ due. r.waits refl;
  unmissed = r.tried refl;
  none_waits = r.none_waits;
  tries = (let t = r.tries in omega arith);
  few = r.few;
}

-- nothing is due
pub ready_idle : (first : Opening) (h : Journal) → Rounds first false h → GoingBetween h → IsFree h → is_due first h ≡ false → missed_of first h ≡ false → IsReady first h
ready_idle first h r between taken idle unmissed = record {
  quiet = quiet_between h between taken;
  unpolled = none_between h found_none between;
  tried = λ due. absurd (let e = sym idle ∙ due in cc);
  unmissed = unmissed;
  none_waits = r.none_waits;
  tries = (let t = r.tries in omega arith);
  few = r.few;
}

-- ---- the motion is waited for

pub may_run : (first : Opening) (h : Journal) → IsReady first h → counts_tries (left_of first h) false ≡ false → MayRun first h
may_run first h ready none = record {
  quiet = ready.quiet;
  polled = λ e. absurd (let n = ready.unpolled in cc);
  once = λ e. absurd (let n = sym e ∙ uncounted first h none in cc);
  few = ready.few;
  unspoken = none_spoken (left_of first h) none;
}

pub may_await : (first : Opening) (h : Journal) → IsReady first h → begins_in (motion_of first h) ≡ true → awaits_motion (left_of first h) ≡ true → MayAwait first h
may_await first h ready going awaits = record { run = may_run first h ready (none_awaited (left_of first h) awaits); going = going; awaits = awaits; none_waits = ready.none_waits }

-- a machine that stands with nothing left to run waits for no start, and has no segment due
pub no_blocks : (first : Opening) (h : Journal) → HasStopped first h → has_blocks (plan_of h).blocks ≡ false
no_blocks first h stopped = ap has_blocks stopped.drained.plan.blocks

pub not_waiting : (first : Opening) (h : Journal) → HasStopped first h → AreWaiting first h → ⊥
not_waiting first h stopped waiting = absurd (let e = sym waiting.blocks ∙ no_blocks first h stopped in cc)

pub not_due : (first : Opening) (h : Journal) → HasStopped first h → is_due first h ≡ false
not_due first h stopped = ap (λ m. has_segment m (plan_of h)) stopped.stands

pub ready_stopped : (first : Opening) (h next : Journal) → IsReady first h → PassesNothing first h next → HasStopped first next → IsReady first next
ready_stopped first h next ready passes stopped =
    let t = passes.tries in
    record {
      quiet = record {
        still = passes.still ∙ ready.quiet.still;
        quiet = passes.quiet ∙ ready.quiet.quiet;
        worked = passes.worked ready.quiet.worked;
        flags = passes.flags ∙ ready.quiet.flags;
        unowed = passes.owed ∙ ready.quiet.unowed;
        untold = passes.replies ∙ ready.quiet.untold;
      };
      unpolled = passes.polled ∙ ready.unpolled;
      tried = λ due. absurd (let e = sym due ∙ not_due first next stopped in cc);
      unmissed = passes.missed ∙ ready.unmissed;
      none_waits = λ waiting. absurd (not_waiting first next stopped waiting);
      tries = (let w = passes.ahead in let r = ready.tries in omega (arith, t, w, r));
      few = λ none. (let w = passes.ahead in let m = ready.few (passes.counted none) in omega (arith, t, w, m));
    }

-- what is next goes on where the machine stands
pub goes_on_stopped : (first : Opening) (h : Journal) → HasStopped first h → GoesOn first h
goes_on_stopped first h stopped = record {
  held = λ halts. absurd (let e = sym halts ∙ ap is_halting stopped.stands in cc);
  unlimited = ap is_limited stopped.stands;
}

awaited : (ts : List Task) → awaits_motion ts ≡ true → halts_next ts ≡ false → (ts ≡ ask a_rest ∷ drop 1 ts) ⊎ ((ts ≡ pause ∷ drop 1 ts) ⊎ ((ts ≡ normal ∷ drop 1 ts) ⊎ (ts ≡ finish ∷ drop 1 ts)))
awaited [] e none = absurd cc
awaited (ask a_rest ∷ ts) e none = inl refl
awaited (ask (a_move m) ∷ ts) e none = absurd cc
awaited (ask (a_mark m) ∷ ts) e none = absurd cc
awaited (tell r ∷ ts) e none = absurd cc
awaited (pause ∷ ts) e none = inr (inl refl)
awaited (normal ∷ ts) e none = inr (inr (inl refl))
awaited (finish ∷ ts) e none = inr (inr (inr refl))
awaited (halt ∷ ts) e none = absurd cc

-- where no rest is next, nor overrides that are set, a pause or the end is what waits for the motion
pub needs_no_wait : {N : ℕ} (first : Opening) (b : Board N) (h : Journal) → Keeps first b h → HasStopped first h → (IsNextTask first (ask a_rest) h → ⊥) → (IsNextTask first normal h → ⊥) → NeedsNoWait first h
needs_no_wait first b h k stopped no_rest no_normal awaits = by_task (awaited (left_of first h) awaits (none_halts first b h k (ap is_limited stopped.stands)))
  where
    by_task : IsNextTask first (ask a_rest) h ⊎ (IsNextTask first pause h ⊎ (IsNextTask first normal h ⊎ IsNextTask first finish h)) → HasStopped first h × (IsNextTask first pause h ⊎ IsNextTask first finish h)
    by_task (inl e) = absurd (no_rest e)
    by_task (inr (inl e)) = (stopped, inl e)
    by_task (inr (inr (inl e))) = absurd (no_normal e)
    by_task (inr (inr (inr e))) = (stopped, inr e)

-- ---- what was done moves on

-- something was done up to a journal, behind which moves were added
pub did_filled : {N : ℕ} (first : Opening) (was : Flags) (board : Board N) (h mid next : Journal) (steps : List Step) → mid ≡ steps ++ h → list_any ends_turn steps ≡ false → Keeps first board next → board.published ≡ false → TakesFlags board.flags next → HasFilled first mid next
    → AreWorked mid → count_by publishing (this_turn mid) ≤ 1 → list_any found_none (this_turn mid) ≡ false → tries_of first mid + tries_ahead first mid ≤ 4
    → (list_any moving (this_turn next) ≡ true) ⊎ (number_of first board.flags next < number_of first was h) → BoardWorked first Did was board h next
did_filled first was board h mid next steps is inner keeps unpublished taken filled worked once unpolled few moves =
    let a = filled.alone.passes in
    let now = a.worked worked in
    let t = a.tries in
    let w = a.ahead in
    record {
      keeps = keeps;
      rounds = subst (λ b. (Rounds first) b next) (sym unpublished) (rounds_still first next filled.none_waits (omega (arith, t, w, few)));
      flags = taken;
      still = λ e. absurd (let s = unpublished in cc);
      unpublished = λ o e. unpublished;
      steps = a.steps ++ steps;
      are = a.are ∙ ap (λ (x : Journal). a.steps ++ x) is ∙ sym (append_assoc a.steps steps h);
      inner = none_ends a.steps steps a.inner inner;
      may = record {
        once = (let q = a.quiet in omega arith);
        adds = filled.adds;
        starts = none_called first next (a.polled ∙ unpolled) filled.none_waits;
        tries = omega arith;
        obeyed = now.obeyed;
        changed = now.changed;
        halts = halts_by first board next keeps;
      };
      moves = λ e. moves;
    }

-- ---- whether the run is being closed

-- where the motion was waited for, and the rests that were next are over, nothing is left only of a run that goes on
pub still_open : {N : ℕ} (was stopped is : Board N) → awaits_motion was.lines.left ≡ true → stopped.lines ≡ was.lines → is.closing ≡ stopped.closing → (stopped.closing ≡ true → is ≡ stopped)
    → is.lines.left ≡ [] → is.closing ≡ false
still_open was stopped is awaits lines closing same none = by_closing stopped.closing refl
  where
    by_closing : (b : Bool) → stopped.closing ≡ b → is.closing ≡ false
    by_closing false e = closing ∙ e
    by_closing true e =
        let none_was : was.lines.left ≡ [] = sym (ap (λ i. i.left) lines) ∙ sym (ap (λ (c : Board _). c.lines.left) (same e)) ∙ none in
        absurd (let f = sym awaits ∙ ap awaits_motion none_was in cc)
