-- What holds of every journal that the rules allow, and of one between two turns.
use Rattle.std.proofs.Common.{◌≡◌, ◌⊎◌, inl, inr, Bool, true, false, ◌&&◌, not, List, [], ◌∷◌, drop, refl, sym, ap, ◌∙◌}
use Rattle.status_report.specs.declared.Reply.{Reply}
use Rattle.status_report.specs.declared.Reply.TheVariants.{Bye}
use Rattle.step_line.specs.Asking.{Asked}
use Rattle.step_line.specs.Asking.Asked.{a_move, a_mark, a_rest}
use Rattle.plan_rules.specs.declared.Mode.TheVariants.{Go}
use Rattle.planner_runs.specs.declared.Action.{Action}
use Rattle.planner_runs.specs.declared.Action.TheVariants.{Add, Take, Mark, Rest, Clear, Reset}
use Rattle.board_journal.specs.Openings.{Opening}
use Rattle.run_rules.specs.Work.{Task}
use Rattle.run_rules.specs.Work.Task.{ask, tell, pause, normal, finish, halt}
use Rattle.board_journal.specs.Ports.PortStep.{took, answered}
use Rattle.board_journal.specs.Steps.{Journal, left_of, left_by, without_asks, whole_of, closed_tells, motion_of}
use Rattle.board_journal.specs.Steps.Step.{at_port, began, did, made_end, evened, paused, cut, halted, closing, turned}
use Rattle.board_rules.specs.Turns.{this_turn, missed_of, is_due, is_halting, is_counted, counts_tries, owes_report, is_reply_back, is_report_back, awaits_motion, needs_motion}
use Rattle.board_rules.specs.Within.{tells_none}
use Rattle.board_rules.specs.Conduct.{Conducted, IsNextTask, MayDo}
use Rattle.board_rules.proofs.Closing.{At, going, to_finish, to_tell, over, phase_is}
pub use Rattle.board_rules.proofs.Lines.{number_is}
use Rattle.board_rules.proofs.Tries.{none_counts}
use Rattle.board_rules.proofs.Tasks.{none_next, none_first, head_is}

-- ---- a line that waits to be begun

abbrev Free : List Task → Bool → Type 0
Free left whole = (left ≡ []) ⊎ (whole ≡ false)

one_less : (left : List Task) (whole : Bool) (t : Task) → left ≡ t ∷ drop 1 left → Free left whole → Free (drop 1 left) whole
one_less left whole t next (inl none) = none_first left t next none
one_less left whole t next (inr partial) = inr partial

free_behind : (first : Opening) (h : Journal) (a : Action) → MayDo first a h → Free (left_of first h) (whole_of h) → Free (left_by a (left_of first h)) (whole_of h)
free_behind first h (Add m) may free = one_less (left_of first h) (whole_of h) (ask (a_move m)) may free
free_behind first h (Mark m) may free = one_less (left_of first h) (whole_of h) (ask (a_mark m)) may.next free
free_behind first h Rest may free = one_less (left_of first h) (whole_of h) (ask a_rest) may.next free
free_behind first h (Take Go) may free = free
free_behind first h Clear may free = absurd may
free_behind first h Reset may free = absurd may
free_behind first h _ may free = free

free_cut : (left : List Task) (whole : Bool) → Free left whole → Free (without_asks left) whole
free_cut left whole (inl none) = inl (ap without_asks none)
free_cut left whole (inr partial) = inr partial

free_is : (first : Opening) (h : Journal) → Conducted first h → Free (left_of first h) (whole_of h)
free_is first [] c = inr refl
free_is first (at_port (took b) ∷ h) c = inl c.0.polls.all_done
free_is first (at_port (answered r) ∷ h) c = one_less (left_of first h) (whole_of h) (tell r) c.0.next (free_is first h c.1)
free_is first (began o ∷ h) c = inr refl
free_is first (did a ps ∷ h) c = free_behind first h a c.0.0 (free_is first h c.1)
free_is first (made_end ∷ h) c = one_less (left_of first h) (whole_of h) finish c.0.next (free_is first h c.1)
free_is first (evened ∷ h) c = one_less (left_of first h) (whole_of h) normal c.0.rests.next (free_is first h c.1)
free_is first (paused ∷ h) c = one_less (left_of first h) (whole_of h) pause c.0.rests.next (free_is first h c.1)
free_is first (cut k ∷ h) c = free_cut (left_of first h) (whole_of h) (free_is first h c.1)
free_is first (halted ∷ h) c = one_less (left_of first h) (whole_of h) halt c.0.next (free_is first h c.1)
free_is first (closing ∷ h) c = inr c.0.begun
free_is first (_ ∷ h) c = free_is first h c.1

-- no line waits to be begun while something is left to do of the one before
pub not_whole : (first : Opening) (h : Journal) → Conducted first h → (left_of first h ≡ [] → ⊥) → whole_of h ≡ false
not_whole first h c some = by_free (free_is first h c)
  where
    by_free : Free (left_of first h) (whole_of h) → whole_of h ≡ false
    by_free (inl none) = absurd (some none)
    by_free (inr partial) = partial

pub and_false : (a b : Bool) → b ≡ false → (a && b) ≡ false
and_false true b is = is
and_false false b is = refl

-- no try to publish is counted while a report that was handed back is owed
pub uncounted_owing : (first : Opening) (h : Journal) → owes_report h ≡ true → is_report_back h ≡ true → is_counted first h ≡ false
uncounted_owing first h owed back = by_both (owes_report h) (is_report_back h) (not (is_halting (motion_of first h) && whole_of h) && counts_tries (left_of first h) (not (owes_report h) && is_reply_back h)) owed back
  where
    by_both : (a b c : Bool) → a ≡ true → b ≡ true → (not (a && b) && c) ≡ false
    by_both true true c e f = refl
    by_both true false c e f = absurd cc
    by_both false b c e f = absurd cc

-- nor is one by what is left to do, where no report is owed
pub uncounted_behind : (first : Opening) (h : Journal) → owes_report h ≡ false → counts_tries (left_of first h) (is_reply_back h) ≡ false → is_counted first h ≡ false
uncounted_behind first h unowed none =
    and_false (not (owes_report h && is_report_back h)) (not (is_halting (motion_of first h) && whole_of h) && counts_tries (left_of first h) (not (owes_report h) && is_reply_back h))
    (and_false (not (is_halting (motion_of first h) && whole_of h)) (counts_tries (left_of first h) (not (owes_report h) && is_reply_back h))
    (ap (λ o. counts_tries (left_of first h) (not o && is_reply_back h)) unowed ∙ none))

-- nor where no reply of a line is next, but something else
pub uncounted : (first : Opening) (h : Journal) → counts_tries (left_of first h) false ≡ false → is_counted first h ≡ false
uncounted first h none =
    let back = not (owes_report h) && is_reply_back h in
    and_false (not (owes_report h && is_report_back h)) (not (is_halting (motion_of first h) && whole_of h) && counts_tries (left_of first h) back)
    (and_false (not (is_halting (motion_of first h) && whole_of h)) (counts_tries (left_of first h) back) (none_counts (left_of first h) back none))

-- nor is one while a line waits for a machine that is held, or slows down for that
pub uncounted_line : (first : Opening) (h : Journal) → is_halting (motion_of first h) ≡ true → whole_of h ≡ true → is_counted first h ≡ false
uncounted_line first h halts whole =
    let back = not (owes_report h) && is_reply_back h in
    and_false (not (owes_report h && is_report_back h)) (not (is_halting (motion_of first h) && whole_of h) && counts_tries (left_of first h) back)
    (none (is_halting (motion_of first h)) (whole_of h) (counts_tries (left_of first h) back) halts whole)
  where
    none : (a b c : Bool) → a ≡ true → b ≡ true → (not (a && b) && c) ≡ false
    none true true c e f = refl
    none true false c e f = absurd cc
    none false b c e f = absurd cc

-- what waits for the motion is no reply, nor is what is asked for
pub none_awaited : (ts : List Task) → awaits_motion ts ≡ true → counts_tries ts false ≡ false
none_awaited [] awaits = absurd cc
none_awaited (tell r ∷ ts) awaits = absurd cc
none_awaited (ask a ∷ ts) awaits = refl
none_awaited (pause ∷ ts) awaits = refl
none_awaited (normal ∷ ts) awaits = refl
none_awaited (finish ∷ ts) awaits = refl
none_awaited (halt ∷ ts) awaits = refl

pub none_asked : (ts : List Task) (a : Asked) → ts ≡ ask a ∷ drop 1 ts → counts_tries ts false ≡ false
none_asked ts a next = ap (λ (us : List Task). counts_tries us false) next

pub none_by_bye : (ts : List Task) (r : Reply) → r ≡ Bye → ts ≡ tell r ∷ drop 1 ts → counts_tries ts false ≡ false
none_by_bye ts r bye next = ap (λ (us : List Task). counts_tries us false) next ∙ ap (λ q. counts_tries (tell q ∷ drop 1 ts) false) bye

-- where what is next is held up, and no line waits to be begun, it is none
pub none_held_up : (ts : List Task) (whole full : Bool) → needs_motion ts whole full ≡ true → whole ≡ false → counts_tries ts false ≡ false
none_held_up [] whole full up partial = absurd (let e = sym up ∙ partial in cc)
none_held_up (tell r ∷ ts) whole full up partial = absurd cc
none_held_up (ask a ∷ ts) whole full up partial = refl
none_held_up (pause ∷ ts) whole full up partial = refl
none_held_up (normal ∷ ts) whole full up partial = refl
none_held_up (finish ∷ ts) whole full up partial = refl
none_held_up (halt ∷ ts) whole full up partial = refl

-- and no reply of a line is next
pub unspoken_held_up : (ts : List Task) (whole full : Bool) → needs_motion ts whole full ≡ true → tells_none ts ≡ true
unspoken_held_up [] whole full up = refl
unspoken_held_up (tell r ∷ ts) whole full up = absurd cc
unspoken_held_up (ask a ∷ ts) whole full up = refl
unspoken_held_up (pause ∷ ts) whole full up = refl
unspoken_held_up (normal ∷ ts) whole full up = refl
unspoken_held_up (finish ∷ ts) whole full up = refl
unspoken_held_up (halt ∷ ts) whole full up = refl

-- ---- a run that is being closed

-- once the run is being closed only the end and Bye are left
only_end : (first : Opening) (h : Journal) (t : Task) → Conducted first h → (closed_tells h ≡ [] → ⊥) → (t ≡ finish → ⊥) → (t ≡ tell Bye → ⊥) → IsNextTask first t h → ⊥
only_end first h t c closes no_end no_bye next = by_phase (phase_is first h c)
  where
    by_phase : At first h → ⊥
    by_phase (going none is) = closes none
    by_phase (to_finish e left w is) = no_end (head_is (left_of first h) t finish _ next left)
    by_phase (to_tell e left w p still is k) = no_bye (head_is (left_of first h) t (tell Bye) _ next left)
    by_phase (over e left w p still d is k) = none_next (left_of first h) t left next

-- nothing is waited for by a rest then, and no override is set
pub no_rest_closing : (first : Opening) (h : Journal) → Conducted first h → (closed_tells h ≡ [] → ⊥) → IsNextTask first (ask a_rest) h → ⊥
no_rest_closing first h c closes next = only_end first h (ask a_rest) c closes (λ e. absurd cc) (λ e. absurd cc) next

pub no_normal_closing : (first : Opening) (h : Journal) → Conducted first h → (closed_tells h ≡ [] → ⊥) → IsNextTask first normal h → ⊥
no_normal_closing first h c closes next = only_end first h normal c closes (λ e. absurd cc) (λ e. absurd cc) next

-- ---- between two turns

-- where no segment is due none is missed
pub unmissed : (first : Opening) (h : Journal) → this_turn h ≡ [] → is_due first h ≡ false → missed_of first h ≡ false
unmissed first [] none due = refl
unmissed first (turned t ∷ h) none due = and_false (missed_of first h) (is_due first h) due
unmissed first (_ ∷ h) none due = absurd cc
