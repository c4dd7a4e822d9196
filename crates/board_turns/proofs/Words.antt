-- A turn takes a word of flags, and does what that asks for.
use Rattle.std.proofs.Common.{ℕ, ◌≡◌, ◌+◌, ◌≤◌, ◌<◌, Bool, true, false, List, [], ◌∷◌, ◌++◌, cond, length, nat_eq, drop, Some, None, refl, sym, ap, ◌∙◌, subst, arith, inr}
use Rattle.board_rules.specs.Within.{tries_ahead}
use Rattle.std.specs.List.{list_any, count_by}
use Rattle.std.specs.Option.{option_to_list}
use Rattle.std.specs.declared.option.Option.{Option}
use Rattle.code_table.specs.declared.flags.Exec.{Exec}
use Rattle.code_table.specs.declared.flags.Ovr.{Ovr}
use Rattle.overrides.specs.Percents.{taken}
use Rattle.outside.specs.declared.Turn.TheVariants.{Did}
use Rattle.planner_runs.specs.declared.Action.TheVariants.{Override}
use Rattle.status_report.specs.declared.Reply.{Reply}
use Rattle.step_line.specs.Asking.Asked.{a_move}
use Rattle.step_line.specs.declared.planned_move.PlannedMove.{PlannedMove}
use Rattle.run_rules.specs.Work.{Task, pauses}
use Rattle.run_rules.specs.Work.Task.{ask}
use Rattle.board_journal.specs.Openings.{Opening}
use Rattle.board_journal.specs.Ports.{BoardLog, asks_reset, has_changes}
use Rattle.board_journal.specs.Ports.PortStep.{took_exec, took_ovr}
use Rattle.board_journal.specs.Steps.{Step, Journal, port_log, left_of, closed_tells, plan_of, motion_of}
use Rattle.board_journal.specs.Steps.Step.{at_port, did}
use Rattle.board_rules.specs.Cuts.{has_cut}
use Rattle.board_rules.specs.Turns.{this_turn, publishing, ends_turn, found_none, is_greeted, unobeyed_of, owes_report, takes_changes, replans, changes_taken, starts_cycle, has_blocks, has_jogged, has_jog_to_start, is_full, tries_of}
use Rattle.board_rules.specs.Conduct.{IsNextTask, AreWaiting, MayObey}
use Rattle.board_rules.proofs.Waiting.{adds}
use Rattle.units.specs.Truths.{one_if}
use Rattle.board_turns.specs.declared.board.Board.{Board}
use Rattle.board_turns.specs.declared.board.Flags.TheVariants as words
use Rattle.board_turns.specs.Boards.{Keeps, Rounds, NoneWaits, AwaitsWords, HasChanges, TakesFlags, GoingBetween, GoingFits, takes_no_word, words_left, changes_left, number_of}
use Rattle.board_turns.specs.Turning.{HasSettled, AreWorked, BoardWorked, asked, flags_behind, obeyed, obeying, replanned, to_obey}
use Rattle.board_turns.specs.Reporting.{MayObeyNow}
use Rattle.board_rules.proofs.Tries.{counts_none, counts_one}
use Rattle.board_turns.proofs.Numbers.{few_changes}
use Rattle.board_turns.proofs.Steps.{halts_by}
use Rattle.board_turns.proofs.Ends.{none_called, same_calls, rounds_still, takes_none, no_word_left}
use Rattle.board_turns.proofs.Settling.{replanned_some, replanned_none, none_waits_so, none_fits_so}
use Rattle.board_turns.proofs.Halting.{HaltsInTime, rounds_behind, leaves, obeyed_behind, word_waits, ends_obeyed, ends_taken, taken as taken_word, free_now, asked_now}

-- ---- between two turns

-- where words of flags are to be taken, the last turn published no piece
unpublished_is : {N : ℕ} (first : Opening) (board : Board N) (h : Journal) → GoingFits first board h → takes_no_word board.flags ≡ false → board.published ≡ false
unpublished_is first board h f some = by_last board.published f.still
  where
    by_last : (b : Bool) → (b ≡ true → takes_no_word board.flags ≡ true) → b ≡ false
    by_last false still = refl
    by_last true still = absurd (let e = sym some ∙ still refl in cc)

few_between : {N : ℕ} (first : Opening) (board : Board N) (h : Journal) → GoingFits first board h → board.published ≡ false → tries_of first h + tries_ahead first h ≤ 4
few_between first board h f unpublished = let t = f.rounds.tries in let b = ap one_if unpublished in omega (arith, t, b)

count_between : (h : Journal) (f : Step → Bool) → GoingBetween h → count_by f (this_turn h) ≡ 0
count_between h f between = ap (λ (ss : List Step). count_by f ss) between

worked_between : (first : Opening) (h : Journal) → GoingBetween h → unobeyed_of h ≡ [] → AreWorked h
worked_between first h between none = record {
  obeyed = λ e. none;
  changed = count_between h replans between ∙ sym (count_between h takes_changes between);
}

-- ---- the word of changes of overrides

-- a word of changes was taken, and where it holds one it is planned anew
record TakesChanges (first : Opening) (h next : Journal) : Type 0 where
  steps : List Step
  are : next ≡ steps ++ h
  inner : list_any ends_turn steps ≡ false
  one : count_by publishing (this_turn next) ≡ count_by publishing (this_turn h) + 1
  worked : AreWorked h → AreWorked next
  polled : list_any found_none (this_turn next) ≡ list_any found_none (this_turn h)
  tries : tries_of first next ≡ tries_of first h
  ahead : tries_ahead first next ≡ tries_ahead first h
  left : left_of first next ≡ left_of first h
  closed : closed_tells next ≡ closed_tells h
  motion : motion_of first next ≡ motion_of first h
  cuts : has_cut next ≡ has_cut h
  waiting : AreWaiting first next → AreWaiting first h
  full : is_full first.blocks (plan_of next) ≡ is_full first.blocks (plan_of h)
  taken : changes_taken next ≡ true
  greeted : is_greeted next ≡ is_greeted h
  words : unobeyed_of next ≡ unobeyed_of h
  jogged : has_jogged next ≡ has_jogged h

none_changed : (first : Opening) (word : Ovr) (h : Journal) → has_changes word ≡ false → TakesChanges first h (at_port (took_ovr word) ∷ h)
none_changed first word h none = record {
  steps = at_port (took_ovr word) ∷ [];
  are = refl;
  inner = refl;
  one = counts_one publishing (at_port (took_ovr word)) (this_turn h) refl;
  worked = λ w. record {
    obeyed = w.obeyed;
    changed = counts_none replans (at_port (took_ovr word)) (this_turn h) refl ∙ w.changed ∙ sym (counts_none takes_changes (at_port (took_ovr word)) (this_turn h) none);
  };
  polled = refl;
  tries = refl;
  ahead = refl;
  left = refl;
  closed = refl;
  motion = refl;
  cuts = refl;
  waiting = λ w. record { stands = w.stands; blocks = w.blocks };
  full = refl;
  taken = refl;
  greeted = refl;
  words = refl;
  jogged = refl;
}

some_changed : (first : Opening) (word : Ovr) (h : Journal) → has_changes word ≡ true → TakesChanges first h (did (Override (taken (plan_of h).overrides word)) [] ∷ (at_port (took_ovr word) ∷ h))
some_changed first word h some =
    let plans = did (Override (taken (plan_of h).overrides word)) [] in
    let takes = at_port (took_ovr word) in
    let ss = this_turn h in
    record {
      steps = plans ∷ takes ∷ [];
      are = refl;
      inner = refl;
      one = counts_none publishing plans (takes ∷ ss) refl ∙ counts_one publishing takes ss refl;
      worked = λ w. record {
        obeyed = w.obeyed;
        changed = counts_one replans plans (takes ∷ ss) refl ∙ ap (λ n. n + 1) (counts_none replans takes ss refl ∙ w.changed)
            ∙ sym (counts_none takes_changes plans (takes ∷ ss) refl ∙ counts_one takes_changes takes ss some);
      };
      polled = refl;
      tries = refl;
      ahead = refl;
      left = refl;
      closed = refl;
      motion = refl;
      cuts = refl;
      waiting = λ w. record { stands = w.stands; blocks = w.blocks };
      full = refl;
      taken = refl;
      greeted = refl;
      words = refl;
      jogged = refl;
    }

takes_changes_of : (first : Opening) (word : Ovr) (h : Journal) → TakesChanges first h (replanned word h)
takes_changes_of first word h = by_word (has_changes word) refl
  where
    by_word : (some : Bool) → has_changes word ≡ some → TakesChanges first h (replanned word h)
    by_word true e = subst (TakesChanges first h) (sym (replanned_some word h e)) (some_changed first word h e)
    by_word false e = subst (TakesChanges first h) (sym (replanned_none word h e)) (none_changed first word h e)

none_waits_changed : (first : Opening) (h next : Journal) → TakesChanges first h next → NoneWaits first h → NoneWaits first next
none_waits_changed first h next t none w =
    same_calls (is_full first.blocks (plan_of next)) (is_full first.blocks (plan_of h)) (left_of first next) (left_of first h) (has_jogged next) (has_jogged h) t.full t.left t.jogged ∙ none (t.waiting w)

changes_worked : {N : ℕ} (first : Opening) (was board : Board N) (h next : Journal) → GoingFits first was h → GoingBetween h → was.flags ≡ words.Both → TakesChanges first h next → Keeps first board next
    → board.published ≡ was.published → board.flags ≡ words.Requests → BoardWorked first Did was.flags board h next
changes_worked first was board h next f between both t keeps same_published flag = record {
  keeps = keeps;
  rounds = subst (λ b. (Rounds first) b next) (sym unpublished) (rounds_still first next none few);
  flags = subst (λ x. TakesFlags x next) (sym flag) (record { greeted = t.greeted ∙ awaits.greeted; changes = t.taken; obeyed = t.words ∙ none_left });
  still = λ e. absurd (let x = sym unpublished ∙ e in cc);
  unpublished = λ o e. absurd cc;
  steps = t.steps;
  are = t.are;
  inner = t.inner;
  may = record {
    once = (let one = t.one in let zero = count_between h publishing between in omega (arith, one, zero));
    adds = λ m move. t.full ∙ adds first h m f.keeps.conducted between (subst (λ (ts : List Task). ts ≡ ask (a_move m) ∷ drop 1 ts) t.left move);
    starts = none_called first next (t.polled ∙ ap (λ (ss : List Step). list_any found_none ss) between) none;
    tries = omega (arith, few);
    obeyed = (t.worked (worked_between first h between none_left)).obeyed;
    changed = (t.worked (worked_between first h between none_left)).changed;
    halts = halts_by first board next keeps;
  };
  moves = λ e. inr falls;
}
  where
    unpublished : board.published ≡ false
    unpublished = same_published ∙ unpublished_is first was h f (ap takes_no_word both)

    awaits : AwaitsWords h
    awaits = subst (λ x. TakesFlags x h) both f.flags

    none_left : unobeyed_of h ≡ []
    none_left = awaits.obeyed

    none : NoneWaits first next
    none = none_waits_changed first h next t f.rounds.none_waits

    few : tries_of first next + tries_ahead first next ≤ 4
    few = let b = few_between first was h f (sym same_published ∙ unpublished) in let n = t.tries in let w = t.ahead in omega (arith, b, n, w)

    falls : number_of first board.flags next < number_of first was.flags h
    falls =
        let two = ap words_left both in
        let one = ap words_left flag in
        let p = ap (λ (ts : List Task). pauses ts) t.left in
        let m = ap (λ x. changes_left x (has_cut next)) t.motion in
        let c = ap (changes_left (motion_of first h)) t.cuts in
        let e = ap (λ (rs : List Reply). one_if (nat_eq (length rs) 0)) t.closed in
        omega (arith, two, one, p, m, c, e)

-- the word of changes was taken
pub took_changes : {N : ℕ} (first : Opening) (was board : Board N) (word : Ovr) (h : Journal) → GoingFits first was h → GoingBetween h → was.flags ≡ words.Both → Keeps first board (replanned word h)
    → board.published ≡ was.published → board.flags ≡ words.Requests → BoardWorked first Did was.flags board h (replanned word h)
took_changes first was board word h f between both keeps same_published flag = changes_worked first was board h (replanned word h) f between both (takes_changes_of first word h) keeps same_published flag

-- ---- the word of requests

none_waits_settled : (first : Opening) (h next : Journal) → HasSettled first h next → NoneWaits first h → NoneWaits first next
none_waits_settled first h next s none w =
    none_waits_so first h next s.passes.jogged s.stays none (s.waiting w) w

-- what the word of requests is taken behind
record TakesRequests {N : ℕ} (first : Opening) (was board : Board N) (h mid : Journal) : Type 0 where
  fits : GoingFits first was h
  between : GoingBetween h
  flag : was.flags ≡ words.Requests
  settled : HasSettled first h mid
  same_published : board.published ≡ was.published

has_changes_at : {N : ℕ} (first : Opening) (was : Board N) (h : Journal) → GoingFits first was h → was.flags ≡ words.Requests → HasChanges h
has_changes_at first was h f flag = subst (λ x. TakesFlags x h) flag f.flags

unpublished_there : {N : ℕ} (first : Opening) (was board : Board N) (h mid : Journal) → TakesRequests first was board h mid → board.published ≡ false
unpublished_there first was board h mid t = t.same_published ∙ unpublished_is first was h t.fits (ap takes_no_word t.flag)

few_there : {N : ℕ} (first : Opening) (was board : Board N) (h mid : Journal) → TakesRequests first was board h mid → tries_of first mid + tries_ahead first mid ≤ 4
few_there first was board h mid t =
    let b = few_between first was h t.fits (sym t.same_published ∙ unpublished_there first was board h mid t) in
    let n = t.settled.passes.tries in let w = t.settled.passes.ahead in omega (arith, b, n, w)

none_left_there : {N : ℕ} (first : Opening) (was board : Board N) (h mid : Journal) → TakesRequests first was board h mid → unobeyed_of mid ≡ []
none_left_there first was board h mid t = t.settled.passes.words ∙ (has_changes_at first was h t.fits t.flag).obeyed

may_add_there : {N : ℕ} (first : Opening) (was board : Board N) (h mid : Journal) → TakesRequests first was board h mid → (m : PlannedMove) → IsNextTask first (ask (a_move m)) mid → is_full first.blocks (plan_of mid) ≡ true
may_add_there first was board h mid t m move =
    none_fits_so first h mid t.settled.stays (λ n next. adds first h n t.fits.keeps.conducted t.between next) m move

none_there : {N : ℕ} (first : Opening) (was board : Board N) (h mid : Journal) → TakesRequests first was board h mid → NoneWaits first mid
none_there first was board h mid t = none_waits_settled first h mid t.settled t.fits.rounds.none_waits

none_called_there : {N : ℕ} (first : Opening) (was board : Board N) (h mid : Journal) → TakesRequests first was board h mid → AreWaiting first mid → starts_cycle first mid ≡ false
none_called_there first was board h mid t =
    none_called first mid (t.settled.passes.polled ∙ ap (λ (ss : List Step). list_any found_none ss) t.between) (none_there first was board h mid t)

-- the word of requests was taken, and obeyed
took_obeyed : {N : ℕ} (first : Opening) (was board : Board N) (word : Exec) (h mid : Journal) → TakesRequests first was board h mid → Keeps first board (obeyed first word mid) → owes_report (taken_word word mid) ≡ false
    → board.flags ≡ words.None → BoardWorked first Did was.flags board h (obeyed first word mid)
took_obeyed first was board word h mid t keeps unowed no_word = record {
  keeps = keeps;
  rounds = subst (λ b. (Rounds first) b (obeyed first word mid)) (sym unpublished)
      (rounds_behind first (to_obey word) (taken_word word mid) (λ w. (none_there first) was board h mid t (record { stands = w.stands; blocks = w.blocks })) few);
  flags = takes_none board (obeyed first word mid) no_word (free_now first word mid (s.changes ∙ (has_changes_at first was h t.fits t.flag).changes) none_left unowed);
  still = λ e. no_word_left board.flags no_word;
  unpublished = λ o e. absurd cc;
  steps = (obeyed_behind first word h mid s.passes.steps s.passes.are s.passes.inner).steps;
  are = (obeyed_behind first word h mid s.passes.steps s.passes.are s.passes.inner).are;
  inner = (obeyed_behind first word h mid s.passes.steps s.passes.are s.passes.inner).inner;
  may = ends_obeyed first word mid (s.passes.quiet ∙ count_between h publishing t.between) none_left (s.passes.worked (worked_between first h t.between (has_changes_at first was h t.fits t.flag).obeyed))
      (may_add_there first was board h mid t) (none_called_there first was board h mid t) (omega (arith, few)) (halts_by first board (obeyed first word mid) keeps);
  moves = λ e. inr falls;
}
  where
    s : HasSettled first h mid
    s = t.settled

    unpublished : board.published ≡ false
    unpublished = unpublished_there first was board h mid t

    few : tries_of first mid + tries_ahead first mid ≤ 4
    few = few_there first was board h mid t

    none_left : unobeyed_of mid ≡ []
    none_left = none_left_there first was board h mid t

    falls : number_of first board.flags (obeyed first word mid) < number_of first was.flags h
    falls =
        let one = ap words_left t.flag in
        let zero = ap words_left no_word in
        let p = s.passes.pauses in
        let two = few_changes (motion_of first (obeyed first word mid)) (has_cut (obeyed first word mid)) in
        let l : pauses (left_of first (obeyed first word mid)) ≡ pauses (left_of first mid) = ap pauses (leaves first (to_obey word) (taken_word word mid)).left in
        let c : one_if (nat_eq (length (closed_tells (obeyed first word mid))) 0) ≡ one_if (nat_eq (length (closed_tells mid)) 0) = ap (λ (rs : List Reply). one_if (nat_eq (length rs) 0)) (leaves first (to_obey word) (taken_word word mid)).closed in
        let e = ap (λ (rs : List Reply). one_if (nat_eq (length rs) 0)) s.passes.closed in
        omega (arith, one, zero, p, two, l, c, e)

-- it was taken, and a report is told first
took_asked : {N : ℕ} (first : Opening) (was board : Board N) (word : Exec) (h mid : Journal) → TakesRequests first was board h mid → Keeps first board (taken_word word mid) → owes_report (taken_word word mid) ≡ true
    → board.flags ≡ words.Report (to_obey word) → BoardWorked first Did was.flags board h (taken_word word mid)
took_asked first was board word h mid t keeps owed asks = record {
  keeps = keeps;
  rounds = subst (λ b. (Rounds first) b (taken_word word mid)) (sym unpublished)
      (rounds_still first (taken_word word mid) (λ w. (none_there first) was board h mid t (record { stands = w.stands; blocks = w.blocks })) few);
  flags = subst (λ f. TakesFlags f (taken_word word mid)) (sym asks) (asked_now word mid (s.changes ∙ (has_changes_at first was h t.fits t.flag).changes) (none_left_there first was board h mid t) owed);
  still = λ e. ap takes_no_word asks;
  unpublished = λ o e. absurd cc;
  steps = at_port (took_exec word) ∷ s.passes.steps;
  are = ap (λ (j : Journal). at_port (took_exec word) ∷ j) s.passes.are;
  inner = s.passes.inner;
  may = ends_taken first word mid owed (s.passes.quiet ∙ count_between h publishing t.between) (s.passes.worked (worked_between first h t.between (has_changes_at first was h t.fits t.flag).obeyed))
      (may_add_there first was board h mid t) (none_called_there first was board h mid t) (omega (arith, few)) (halts_by first board (taken_word word mid) keeps);
  moves = λ e. inr falls;
}
  where
    s : HasSettled first h mid
    s = t.settled

    unpublished : board.published ≡ false
    unpublished = unpublished_there first was board h mid t

    few : tries_of first mid + tries_ahead first mid ≤ 4
    few = few_there first was board h mid t

    falls : number_of first board.flags (taken_word word mid) < number_of first was.flags h
    falls =
        let one = ap words_left t.flag in
        let zero = ap words_left asks in
        let p = s.passes.pauses in
        let m = s.passes.changes in
        let e = ap (λ (rs : List Reply). one_if (nat_eq (length rs) 0)) s.passes.closed in
        omega (arith, one, zero, p, m, e)

-- the word of requests was taken, and obeyed unless a report is told first
pub took_requests : {N : ℕ} (first : Opening) (was board : Board N) (word : Exec) (h mid : Journal) → GoingFits first was h → GoingBetween h → was.flags ≡ words.Requests → HasSettled first h mid → Keeps first board (asked first word mid)
    → board.published ≡ was.published → board.flags ≡ flags_behind (owes_report (taken_word word mid)) word → BoardWorked first Did was.flags board h (asked first word mid)
took_requests first was board word h mid f between flag s keeps same_published flags = by_owed (owes_report (taken_word word mid)) refl
  where
    t : TakesRequests first was board h mid
    t = record { fits = f; between = between; flag = flag; settled = s; same_published = same_published }

    by_owed : (owed : Bool) → owes_report (taken_word word mid) ≡ owed → BoardWorked first Did was.flags board h (asked first word mid)
    by_owed true e =
        let is : asked first word mid ≡ taken_word word mid = ap (λ b. cond b (taken_word word mid) (obeyed first word mid)) e in
        subst (λ (j : Journal). BoardWorked first Did was.flags board h j) (sym is)
        (took_asked first was board word h mid t (subst (λ (j : Journal). Keeps first board j) is keeps) e (flags ∙ ap (λ b. flags_behind b word) e))
    by_owed false e =
        let is : asked first word mid ≡ obeyed first word mid = ap (λ b. cond b (taken_word word mid) (obeyed first word mid)) e in
        subst (λ (j : Journal). BoardWorked first Did was.flags board h j) (sym is)
        (took_obeyed first was board word h mid t (subst (λ (j : Journal). Keeps first board j) is keeps) e (flags ∙ ap (λ b. flags_behind b word) e))

-- ---- what a word that was taken leads to

pub asked_owed : (first : Opening) (word : Exec) (h : Journal) → owes_report (taken_word word h) ≡ true → asked first word h ≡ taken_word word h
asked_owed first word h e = ap (λ b. cond b (taken_word word h) (obeyed first word h)) e

pub asked_free : (first : Opening) (word : Exec) (h : Journal) → owes_report (taken_word word h) ≡ false → asked first word h ≡ obeyed first word h
asked_free first word h e = ap (λ b. cond b (taken_word word h) (obeyed first word h)) e

-- whether a report is owed is the same with the word obeyed
pub asked_owes : (first : Opening) (word : Exec) (h : Journal) → owes_report (asked first word h) ≡ owes_report (taken_word word h)
asked_owes first word h = by_owed (owes_report (taken_word word h)) refl
  where
    same : (w : Option Exec) (j : Journal) → owes_report (obeying first w j) ≡ owes_report j
    same None j = refl
    same (Some word) j = refl

    by_owed : (b : Bool) → owes_report (taken_word word h) ≡ b → owes_report (asked first word h) ≡ owes_report (taken_word word h)
    by_owed true e = ap owes_report (asked_owed first word h e)
    by_owed false e = ap owes_report (asked_free first word h e) ∙ same (to_obey word) (taken_word word h)

-- a port stands for it as it did when the word was taken
pub port_stands : (first : Opening) (stands : BoardLog → Type 0) (word : Exec) (h : Journal) → stands (port_log (taken_word word h)) → stands (port_log (obeyed first word h))
port_stands first stands word h s = by_word (to_obey word) (taken_word word h) s
  where
    by_word : (w : Option Exec) (j : Journal) → stands (port_log j) → stands (port_log (obeying first w j))
    by_word None j s = s
    by_word (Some word) j s = s

-- the word that was taken may be obeyed at once, unless it asks for a reset
pub obeys_at_once : (first : Opening) (word : Exec) (h mid : Journal) → HaltsInTime first mid → HasSettled first h mid → has_jog_to_start first h ≡ false → unobeyed_of mid ≡ [] → owes_report (taken_word word mid) ≡ false
    → MayObeyNow first (to_obey word) (taken_word word mid)
obeys_at_once first word h mid halts s no_jog none unowed = by_reset (asks_reset word) refl
  where
    obeys : asks_reset word ≡ false → MayObey first word (has_blocks (plan_of mid).blocks) (taken_word word mid)
    obeys no_reset = record {
      next = word_waits word mid none ∙ ap (λ r. option_to_list (cond r None (Some word))) no_reset;
      reported = λ e. absurd (let f = sym e ∙ unowed in cc);
      blocks = refl;
      looked = λ x. s.looked (record { slows = x.slows; speed = x.speed; empty = x.empty });
      stopped = λ x. s.stopped (record { slowed = record { slows = x.slowed.slows; speed = x.slowed.speed; empty = x.slowed.empty }; done = x.done });
      jog = s.jogs no_jog;
      halts = halts;
    }

    by_reset : (r : Bool) → asks_reset word ≡ r → MayObeyNow first (to_obey word) (taken_word word mid)
    by_reset true e = subst (λ r. MayObeyNow first (cond r None (Some word)) (taken_word word mid)) (sym e) tt
    by_reset false e = subst (λ r. MayObeyNow first (cond r None (Some word)) (taken_word word mid)) (sym e) (obeys e)
