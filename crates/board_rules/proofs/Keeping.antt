-- What a board that keeps to its rules has told, planned and published.
use Rattle.std.proofs.Common.{◌≡◌, ℕ, ◌⊎◌, Bool, true, false, cond, ◌||◌, inl, inr, List, [], ◌∷◌, ◌++◌, drop, sym, refl, ap, ◌∙◌, subst, append_assoc, append-nil}
use Rattle.std.specs.List.{list_any, flat_map}
use Rattle.std.proofs.lemmas.List.Folds.{list_any-append}
use Rattle.std.proofs.lemmas.Grind.{flat_map-append}
use Rattle.feed_hold.specs.declared.Motion.{Motion}
use Rattle.feed_hold.specs.declared.Motion.TheVariants.{Holding, Cancelling}
use Rattle.feed_hold.specs.Motions as motions
use Rattle.feed_hold.specs.Motions.{Call}
use Rattle.feed_hold.specs.Motions.Call.{on_exec}
use Rattle.feed_hold.proofs.Reaching.{StaysOrReaches, reached}
use Rattle.overrides.specs.declared.Overrides.{Overrides}
use Rattle.code_table.specs.declared.flags.Exec.{Exec}
use Rattle.status_report.specs.Answering.{without_reports}
use Rattle.status_report.specs.declared.Reply.{Reply}
use Rattle.status_report.specs.declared.Reply.TheVariants.{Bye}
use Rattle.step_line.specs.Records.{IsMark}
use Rattle.step_line.specs.declared.Mark.TheVariants as marks
use Rattle.step_line.specs.declared.Piece.{Piece}
use Rattle.step_line.specs.declared.Piece.TheVariants as pieces
use Rattle.step_line.specs.Asking.Asked.{a_move, a_mark, a_rest}
use Rattle.planner_runs.specs.declared.Action.{Action}
use Rattle.planner_runs.specs.declared.Action.TheVariants.{Add, Take, Override, Mark, Rest, Clear, Reset}
use Rattle.plan_rules.specs.Plans.{Planned}
use Rattle.planner_runs.specs.Runs.{IsPlannerRun, Plans, NeedsNoOther, DisturbedOnlyBy, NeverClears, IsNoReset, NeverResets, normal_overrides, fresh_plan, cleared}
use Rattle.planner_runs.proofs.Runs.{goes_on, grows_by_override, grows_by_clear, disturbed_on, disturbed_more, disturbed_keeps, resets_on}
use Rattle.plan_rules.specs.declared.Mode.TheVariants.{Go, Hold}
use Rattle.board_journal.specs.Openings.{Opening}
use Rattle.run_rules.specs.Work.{Task, Outcome, tells, told_by}
use Rattle.run_rules.specs.Work.Task.{ask, pause, normal, finish, halt}
use Rattle.run_rules.specs.Told.{replies_after}
use Rattle.board_rules.proofs.Opening.{tells_telling}
use Rattle.board_journal.specs.Ports.{PortStep, asks_reset, has_changes, BoardLog, holds_at, has_held_in, cancels_at, has_cancelled_in, has_slowed_in, changes_at, has_changed_in}
use Rattle.board_journal.specs.Ports.PortStep.{answered, reported, took_exec, took_ovr, published}
use Rattle.board_journal.specs.Steps.{Journal, port_log, has_limited, outcomes_of, answered_of, actions_of, planned_of, given_of, published_of, hand_of, plan_of, motion_of, left_of, left_by, plan_after, closed_tells}
use Rattle.board_journal.specs.Steps.Step.{at_port, began, did, made_end, evened, paused, became, cut, halted, closing}
use Rattle.board_rules.specs.Parts.{Part, AreDisturbedOnlyBy}
use Rattle.board_rules.specs.Cuts.{part_actions, parts_of}
use Rattle.board_rules.specs.Turns.{unobeyed_of}
use Rattle.board_rules.specs.Conduct.{Conducted, MayDo, MayHappen, AreChanged}
use Rattle.board_rules.proofs.Dropping.{tells_kept}
use Rattle.board_rules.proofs.Motions.{SlowsFor, slows_for}
use Rattle.board_rules.proofs.Plain.{plain_push, report_push}
use Rattle.board_rules.proofs.Truths.{either_left, either_right}

-- ---- what disturbs the plan

pub held_before : (e : PortStep) (held : Bool) → held ≡ true → holds_at e held ≡ true
held_before (took_exec word) held is = either_right (motions.asks word motions.hold_byte) held is
held_before _ held is = is

cancelled_before : (e : PortStep) (cancelled : Bool) → cancelled ≡ true → cancels_at e cancelled ≡ true
cancelled_before (took_exec word) cancelled is = either_right (motions.asks word motions.cancel_byte) cancelled is
cancelled_before _ cancelled is = is

pub changed_before : (e : PortStep) (changed : Bool) → changed ≡ true → changes_at e changed ≡ true
changed_before (took_ovr word) changed is = either_right (has_changes word) changed is
changed_before _ changed is = is

abbrev asks_hold : Exec → Bool
asks_hold word = motions.asks word motions.hold_byte

abbrev asks_cancel : Exec → Bool
asks_cancel word = motions.asks word motions.cancel_byte

drop_any : (p : Exec → Bool) (words : List Exec) → list_any p (drop 1 words) ≡ true → list_any p words ≡ true
drop_any p [] is = is
drop_any p (w ∷ words) is = either_right (p w) (list_any p words) is

-- of a word that is taken, or of one before
one_more : (before held asked : Bool) → (before ≡ true → held ≡ true) → (before || (asked || false)) ≡ true → (asked || held) ≡ true
one_more true held asked was is = either_right asked held (was refl)
one_more false held true was is = refl
one_more false held false was is = absurd cc

one_taken : (p : Exec → Bool) (reset : Bool) (words : List Exec) (held : Bool) (word : Exec) → (list_any p words ≡ true → held ≡ true) → list_any p (cond reset words (words ++ word ∷ [])) ≡ true → (p word || held) ≡ true
one_taken p true words held word was is = either_right (p word) held (was is)
one_taken p false words held word was is = one_more (list_any p words) held (p word) was (sym (list_any-append p words (word ∷ [])) ∙ is)

-- a word that is not obeyed yet was taken
unobeyed_taken : (h : Journal) → list_any asks_hold (unobeyed_of h) ≡ true → has_held_in (port_log h) ≡ true
unobeyed_taken [] is = absurd cc
unobeyed_taken (at_port (took_exec word) ∷ h) is = one_taken asks_hold (asks_reset word) (unobeyed_of h) (has_held_in (port_log h)) word (unobeyed_taken h) is
unobeyed_taken (became (on_exec word queued) m ∷ h) is = unobeyed_taken h (drop_any asks_hold (unobeyed_of h) is)
unobeyed_taken (_ ∷ h) is = unobeyed_taken h is

-- so was one that asks for a cancel
uncancelled_taken : (h : Journal) → list_any asks_cancel (unobeyed_of h) ≡ true → has_cancelled_in (port_log h) ≡ true
uncancelled_taken [] is = absurd cc
uncancelled_taken (at_port (took_exec word) ∷ h) is = one_taken asks_cancel (asks_reset word) (unobeyed_of h) (has_cancelled_in (port_log h)) word (uncancelled_taken h) is
uncancelled_taken (became (on_exec word queued) m ∷ h) is = uncancelled_taken h (drop_any asks_cancel (unobeyed_of h) is)
uncancelled_taken (_ ∷ h) is = uncancelled_taken h is

-- a machine slows down to be held only by a word that asks for it
pub by_call : (first : Opening) (h : Journal) (call : Call) → MayHappen first call h → motions.IsBy motions.hold_byte call → has_held_in (port_log h) ≡ true
by_call first h call may (word, queued, is, asked) =
    let obeys : MayHappen first (on_exec word queued) h = subst (λ (x : Call). MayHappen first x h) is may in
    unobeyed_taken h (ap (list_any asks_hold) obeys.next ∙ either_left (motions.asks word motions.hold_byte) false asked)

by_motion : (first : Opening) (h : Journal) (call : Call) (m : Motion) → MayHappen first call h → StaysOrReaches m call (motion_of first h) → m ≡ Holding
    → (motion_of first h ≡ Holding → has_held_in (port_log h) ≡ true) → has_held_in (port_log h) ≡ true
by_motion first h call m may (inl same) is before = before (sym same ∙ is)
by_motion first h call m may (inr reached) is before = by_call first h call may (subst (λ (now : Motion). motions.Reached now call (motion_of first h)) is reached).1

pub held_by_word : (first : Opening) (h : Journal) → Conducted first h → motion_of first h ≡ Holding → has_held_in (port_log h) ≡ true
held_by_word first [] c is = absurd cc
held_by_word first (at_port e ∷ h) c is = held_before e (has_held_in (port_log h)) (held_by_word first h c.1 is)
held_by_word first (paused ∷ h) c is = absurd cc
held_by_word first (became call m ∷ h) c is =
    by_motion first h call m c.0.1 (reached call (motion_of first h) m c.0.0) is (λ (was : motion_of first h ≡ Holding). held_by_word first h c.1 was)
held_by_word first (_ ∷ h) c is = held_by_word first h c.1 is

-- overrides are changed by a word, or set to 100 percent
changed_by_word : (h : Journal) (o : Overrides) → AreChanged o h → has_changed_in (port_log h) ≡ true
changed_by_word h o are = ap has_changed_in are.last ∙ either_left (has_changes are.word) (has_changed_in are.earlier) are.some

-- of two reasons either may be one more
either_more : (a b c d : Bool) → (a ≡ true → c ≡ true) → (b ≡ true → d ≡ true) → (a || b) ≡ true → (c || d) ≡ true
either_more true b c d ac bd e = either_left c d (ac refl)
either_more false b c d ac bd e = either_right c d (bd e)

-- a jog is cancelled only by a word that asks for a hold or a cancel
cancelled_call : (first : Opening) (h : Journal) (call : Call) → MayHappen first call h → motions.IsBy motions.hold_byte call ⊎ motions.IsBy motions.cancel_byte call → has_slowed_in (port_log h) ≡ true
cancelled_call first h call may (inl by) = either_left (has_held_in (port_log h)) (has_cancelled_in (port_log h)) (by_call first h call may by)
cancelled_call first h call may (inr (word, queued, is, asked)) =
    let obeys : MayHappen first (on_exec word queued) h = subst (λ (x : Call). MayHappen first x h) is may in
    either_right (has_held_in (port_log h)) (has_cancelled_in (port_log h))
    (uncancelled_taken h (ap (list_any asks_cancel) obeys.next ∙ either_left (motions.asks word motions.cancel_byte) false asked))

cancelled_motion : (first : Opening) (h : Journal) (call : Call) (m : Motion) → MayHappen first call h → StaysOrReaches m call (motion_of first h) → m ≡ Cancelling
    → (motion_of first h ≡ Cancelling → has_slowed_in (port_log h) ≡ true) → has_slowed_in (port_log h) ≡ true
cancelled_motion first h call m may (inl same) is before = before (sym same ∙ is)
cancelled_motion first h call m may (inr reached) is before = cancelled_call first h call may (subst (λ (now : Motion). motions.Reached now call (motion_of first h)) is reached).1

pub slowed_before : (e : PortStep) (log : BoardLog) → has_slowed_in log ≡ true → has_slowed_in (e ∷ log) ≡ true
slowed_before e log is = either_more (has_held_in log) (has_cancelled_in log) (holds_at e (has_held_in log)) (cancels_at e (has_cancelled_in log)) (held_before e (has_held_in log)) (cancelled_before e (has_cancelled_in log)) is

pub cancelled_by_word : (first : Opening) (h : Journal) → Conducted first h → motion_of first h ≡ Cancelling → has_slowed_in (port_log h) ≡ true
cancelled_by_word first [] c is = absurd cc
cancelled_by_word first (at_port e ∷ h) c is = slowed_before e (port_log h) (cancelled_by_word first h c.1 is)
cancelled_by_word first (paused ∷ h) c is = absurd cc
cancelled_by_word first (became call m ∷ h) c is = cancelled_motion first h call m c.0.1 (reached call (motion_of first h) m c.0.0) is (λ (was : motion_of first h ≡ Cancelling). cancelled_by_word first h c.1 was)
cancelled_by_word first (_ ∷ h) c is = cancelled_by_word first h c.1 is

-- the machine may slow down: a word asked for that, or a line has raised an alarm
abbrev pub slows : Journal → Bool
slows h = has_slowed_in (port_log h) || has_limited h

slowed_by : (first : Opening) (h : Journal) → Conducted first h → SlowsFor first h → slows h ≡ true
slowed_by first h c (inl held) = either_left (has_slowed_in (port_log h)) (has_limited h) (either_left (has_held_in (port_log h)) (has_cancelled_in (port_log h)) (held_by_word first h c held))
slowed_by first h c (inr (inl cancelled)) = either_left (has_slowed_in (port_log h)) (has_limited h) (cancelled_by_word first h c cancelled)
slowed_by first h c (inr (inr (stops, one))) = either_right (has_slowed_in (port_log h)) (has_limited h) one

-- before an alarm by a word alone
pub by_word_alone : (slowed alarmed : Bool) → alarmed ≡ false → (slowed || alarmed) ≡ true → slowed ≡ true
by_word_alone true alarmed none is = refl
by_word_alone false true none is = absurd cc
by_word_alone false false none is = is

pub one_disturbs : (first : Opening) (h : Journal) (a : Action) → Conducted first h → MayDo first a h → NeedsNoOther (slows h) (has_changed_in (port_log h)) a
one_disturbs first h (Take Hold) c may = slowed_by first h c (slows_for first h c may.slows)
one_disturbs first h (Override o) c may = inr (changed_by_word h o may)
one_disturbs first h Clear c may = absurd may
one_disturbs first h Reset c may = absurd may
one_disturbs first h _ c may = tt

-- What was done since the last cut is disturbed by no more than these, and what was done in the parts before it by words alone,
-- since no jog is cut behind an alarm.
abbrev pub Disturbed : (first : Opening) (slowed alarmed changed : Bool) → Journal → Type 0
Disturbed first slowed alarmed changed h = DisturbedOnlyBy (slowed || alarmed) changed (part_actions h) × AreDisturbedOnlyBy slowed changed (parts_of first h)

parts_more : (slowed changed slowed_too changed_too : Bool) (ps : List Part) → (slowed ≡ true → slowed_too ≡ true) → (changed ≡ true → changed_too ≡ true)
    → AreDisturbedOnlyBy slowed changed ps → AreDisturbedOnlyBy slowed_too changed_too ps
parts_more slowed changed slowed_too changed_too [] f g is = tt
parts_more slowed changed slowed_too changed_too (p ∷ ps) f g is =
    (disturbed_more slowed changed slowed_too changed_too p.actions f g is.0, parts_more slowed changed slowed_too changed_too ps f g is.1)

both_more : (first : Opening) (slowed alarmed changed slowed_too alarmed_too changed_too : Bool) (h : Journal) → (slowed ≡ true → slowed_too ≡ true) → (alarmed ≡ true → alarmed_too ≡ true) → (changed ≡ true → changed_too ≡ true)
    → Disturbed first slowed alarmed changed h → Disturbed first slowed_too alarmed_too changed_too h
both_more first slowed alarmed changed slowed_too alarmed_too changed_too h f a g is = (
  disturbed_more (slowed || alarmed) changed (slowed_too || alarmed_too) changed_too (part_actions h) (either_more slowed alarmed slowed_too alarmed_too f a) g is.0,
  parts_more slowed changed slowed_too changed_too (parts_of first h) f g is.1,
)

pub opposite : {A : Type 0} (b : Bool) → b ≡ false → b ≡ true → A
opposite b none is = absurd (let e = sym is ∙ none in cc)

-- it is slowed down only by a word that asks for a hold or a cancel, or where a line has raised an alarm, and planned for other
-- overrides than 100 percent only by a word that changes them
pub disturbed_is : (first : Opening) (h : Journal) → Conducted first h → Disturbed first (has_slowed_in (port_log h)) (has_limited h) (has_changed_in (port_log h)) h
disturbed_is first [] c = (tt, tt)
disturbed_is first (at_port e ∷ h) c =
    both_more first (has_slowed_in (port_log h)) (has_limited h) (has_changed_in (port_log h)) (has_slowed_in (port_log (at_port e ∷ h))) (has_limited h) (has_changed_in (port_log (at_port e ∷ h))) h
    (slowed_before e (port_log h)) (λ (is : has_limited h ≡ true). is) (changed_before e (has_changed_in (port_log h)))
    (disturbed_is first h c.1)
disturbed_is first (began o ∷ h) c =
    both_more first (has_slowed_in (port_log h)) (has_limited h) (has_changed_in (port_log h)) (has_slowed_in (port_log h)) (has_limited (began o ∷ h)) (has_changed_in (port_log h)) h
    (λ (is : has_slowed_in (port_log h) ≡ true). is) (λ (is : has_limited h ≡ true). opposite (has_limited h) c.0.calm is)
    (λ (is : has_changed_in (port_log h) ≡ true). is)
    (disturbed_is first h c.1)
disturbed_is first (did a ps ∷ h) c =
    let d = disturbed_is first h c.1 in
    (disturbed_on (slows h) (has_changed_in (port_log h)) (part_actions h) (a ∷ []) d.0 (one_disturbs first h a c.1 c.0.0, tt), d.1)
disturbed_is first (evened ∷ h) c =
    let d = disturbed_is first h c.1 in
    (disturbed_on (slows h) (has_changed_in (port_log h)) (part_actions h) (Override normal_overrides ∷ []) d.0 (inl refl, tt), d.1)
disturbed_is first (cut k ∷ h) c =
    let d = disturbed_is first h c.1 in
    let changed = has_changed_in (port_log h) in
    let alone = disturbed_more (slows h) changed (has_slowed_in (port_log h)) changed (part_actions h) (by_word_alone (has_slowed_in (port_log h)) (has_limited h) c.0.calm) (λ (is : changed ≡ true). is) d.0 in
    (tt, (alone, d.1))
disturbed_is first (_ ∷ h) c = disturbed_is first h c.1

-- nothing is taken away but by cuts, and where the machine is halted
pub never_clears : (first : Opening) (h : Journal) → Conducted first h → NeverClears (part_actions h)
never_clears first h c = disturbed_keeps (slows h) (has_changed_in (port_log h)) (part_actions h) (disturbed_is first h c).0

-- ---- the plan

no_reset : (first : Opening) (h : Journal) (a : Action) → MayDo first a h → IsNoReset a
no_reset first h Reset may = absurd may
no_reset first h _ may = tt

pub never_resets : (first : Opening) (h : Journal) → Conducted first h → NeverResets (actions_of h)
never_resets first [] c = tt
never_resets first (did a ps ∷ h) c = resets_on (actions_of h) (a ∷ []) (never_resets first h c.1) (no_reset first h a c.0.0, tt)
never_resets first (evened ∷ h) c = resets_on (actions_of h) (Override normal_overrides ∷ []) (never_resets first h c.1) (tt, tt)
never_resets first (cut k ∷ h) c = resets_on (actions_of h) (Clear ∷ Mark (marks.Cut k) ∷ []) (never_resets first h c.1) (tt, (tt, tt))
never_resets first (halted ∷ h) c = resets_on (actions_of h) (Clear ∷ []) (never_resets first h c.1) (tt, tt)
never_resets first (_ ∷ h) c = never_resets first h c.1

-- a plan that stands still is cleared, and the cut is marked
cut_gives : (most : ℕ) (p : Planned) (k : ℕ) → p.speed ≡ 0 → IsMark (marks.Cut k) → Plans most p (Clear ∷ Mark (marks.Cut k) ∷ []) (pieces.Mark (marks.Cut k) ∷ []) (cleared p)
cut_gives most p k still mark = (still, (refl, mark, record { blocks = refl; speed = refl }, refl))

-- a run goes on
pub run_is : (first : Opening) (h : Journal) → Conducted first h → IsPlannerRun first.blocks (actions_of h) (planned_of h) (plan_of h)
run_is first [] c = refl
run_is first (did a ps ∷ h) c =
    goes_on first.blocks fresh_plan (plan_of h) (plan_after a ps (plan_of h)) (actions_of h) (a ∷ []) (planned_of h) ps
    (never_resets first h c.1) (run_is first h c.1) c.0.1
run_is first (evened ∷ h) c =
    grows_by_override first.blocks fresh_plan (plan_of h) (actions_of h) (planned_of h) normal_overrides
    (never_resets first h c.1) (run_is first h c.1) c.0.replans.0
run_is first (halted ∷ h) c =
    grows_by_clear first.blocks fresh_plan (plan_of h) (actions_of h) (planned_of h) (never_resets first h c.1) (run_is first h c.1) c.0.still
run_is first (cut k ∷ h) c =
    goes_on first.blocks fresh_plan (plan_of h) (cleared (plan_of h)) (actions_of h) (Clear ∷ Mark (marks.Cut k) ∷ []) (planned_of h) (pieces.Mark (marks.Cut k) ∷ [])
    (never_resets first h c.1) (run_is first h c.1) (cut_gives first.blocks (plan_of h) k c.0.stopped.slowed.speed c.0.mark)
run_is first (_ ∷ h) c = run_is first h c.1

-- a word that did not come before did not come earlier
pub unchanged_before : (e : PortStep) (changed : Bool) → changes_at e changed ≡ false → changed ≡ false
unchanged_before e false is = refl
unchanged_before e true is = absurd (let s = changed_before e true refl in cc)

as_planned : (first : Opening) (h : Journal) (a : Action) (ps : List Piece) → MayDo first a h → has_changed_in (port_log h) ≡ false
    → (plan_after a ps (plan_of h)).overrides ≡ (plan_of h).overrides
as_planned first h (Take mode) (pieces.Segment s ∷ ps) may none = refl
as_planned first h (Take mode) (pieces.Mark m ∷ ps) may none = refl
as_planned first h (Take mode) (pieces.End ∷ ps) may none = refl
as_planned first h (Take mode) [] may none = refl
as_planned first h (Override o) ps may none = absurd (let s = changed_by_word h o may in cc)
as_planned first h Clear ps may none = absurd may
as_planned first h Reset ps may none = absurd may
as_planned first h _ ps may none = refl

-- before a word changes overrides they are at 100 percent
pub overrides_are : (first : Opening) (h : Journal) → Conducted first h → has_changed_in (port_log h) ≡ false → (plan_of h).overrides ≡ normal_overrides
overrides_are first [] c none = refl
overrides_are first (at_port e ∷ h) c none = overrides_are first h c.1 (unchanged_before e (has_changed_in (port_log h)) none)
overrides_are first (did a ps ∷ h) c none = as_planned first h a ps c.0.0 none ∙ overrides_are first h c.1 none
overrides_are first (evened ∷ h) c none = refl
overrides_are first (_ ∷ h) c none = overrides_are first h c.1 none

-- what is given is published, or in hand
pub hand_is : (first : Opening) (h : Journal) → Conducted first h → given_of h ≡ published_of h ++ hand_of h
hand_is first [] c = refl
hand_is first (at_port (published p) ∷ h) c =
    hand_is first h c.1 ∙ ap (λ (ps : List Piece). published_of h ++ ps) c.0.0 ∙ sym (append_assoc (published_of h) (p ∷ []) (drop 1 (hand_of h)))
hand_is first (did a ps ∷ h) c = ap (λ (qs : List Piece). qs ++ ps) (hand_is first h c.1) ∙ append_assoc (published_of h) (hand_of h) ps
hand_is first (made_end ∷ h) c =
    ap (λ (qs : List Piece). qs ++ pieces.End ∷ []) (hand_is first h c.1) ∙ append_assoc (published_of h) (hand_of h) (pieces.End ∷ [])
hand_is first (cut k ∷ h) c =
    ap (λ (qs : List Piece). qs ++ pieces.Mark (marks.Cut k) ∷ []) (hand_is first h c.1) ∙ append_assoc (published_of h) (hand_of h) (pieces.Mark (marks.Cut k) ∷ [])
hand_is first (_ ∷ h) c = hand_is first h c.1

-- ---- what they tell

abbrev told : Opening → Journal → List Reply
told first h = replies_after first.tells (outcomes_of h) ++ closed_tells h

-- what was answered, reports left out, and what is left to tell
abbrev sides : Journal → List Task → List Reply
sides h tasks = without_reports (answered_of h) ++ tells tasks

told_by_next : (first : Opening) (h : Journal) (t : Task) → left_of first h ≡ t ∷ drop 1 (left_of first h) → told_by t ≡ [] → sides h (left_of first h) ≡ sides h (drop 1 (left_of first h))
told_by_next first h t next none = ap (sides h) next ∙ ap (λ (rs : List Reply). without_reports (answered_of h) ++ (rs ++ tells (drop 1 (left_of first h)))) none

told_behind : (first : Opening) (h : Journal) (a : Action) → MayDo first a h → sides h (left_of first h) ≡ sides h (left_by a (left_of first h))
told_behind first h (Add m) may = told_by_next first h (ask (a_move m)) may refl
told_behind first h (Mark m) may = told_by_next first h (ask (a_mark m)) may.next refl
told_behind first h Rest may = told_by_next first h (ask a_rest) may.next refl
told_behind first h (Take Go) may = refl
told_behind first h Clear may = absurd may
told_behind first h Reset may = absurd may
told_behind first h _ may = refl

-- what is told of the lines is what was answered, reports left out, and what is left to tell
pub told_is : (first : Opening) (h : Journal) → Conducted first h → told first h ≡ sides h (left_of first h)
told_is first [] c = append-nil (first.tells ++ []) ∙ append-nil first.tells ∙ sym (tells_telling first.tells)
told_is first (at_port (answered r) ∷ h) c =
    told_is first h c.1 ∙ ap (sides h) c.0.next ∙ sym (append_assoc (without_reports (answered_of h)) (r ∷ []) (tells (drop 1 (left_of first h))))
    ∙ ap (λ (rs : List Reply). rs ++ tells (drop 1 (left_of first h))) (sym (plain_push (answered_of h) r c.0.plain))
told_is first (at_port (reported r) ∷ h) c =
    told_is first h c.1 ∙ ap (λ (rs : List Reply). rs ++ tells (left_of first h)) (sym (report_push (answered_of h) r))
told_is first (began o ∷ h) c =
    ap (λ (rs : List Reply). replies_after first.tells (outcomes_of h ++ o ∷ []) ++ rs) c.0.going
    ∙ append-nil (replies_after first.tells (outcomes_of h ++ o ∷ []))
    ∙ ap (λ (rs : List Reply). first.tells ++ rs) (flat_map-append (λ (o : Outcome). tells o.work) (outcomes_of h) (o ∷ []))
    ∙ sym (append_assoc first.tells (flat_map (λ (o : Outcome). tells o.work) (outcomes_of h)) (tells o.work ++ []))
    ∙ ap (λ (a : List Reply). replies_after first.tells (outcomes_of h) ++ a) (append-nil (tells o.work))
    ∙ ap (λ (a : List Reply). a ++ tells o.work)
    (sym (append-nil (replies_after first.tells (outcomes_of h))) ∙ ap (λ (rs : List Reply). replies_after first.tells (outcomes_of h) ++ rs) (sym c.0.going)
    ∙ told_is first h c.1 ∙ ap (sides h) c.0.free ∙ append-nil (without_reports (answered_of h)))
told_is first (did a ps ∷ h) c = told_is first h c.1 ∙ told_behind first h a c.0.0
told_is first (made_end ∷ h) c = told_is first h c.1 ∙ told_by_next first h finish c.0.next refl
told_is first (evened ∷ h) c = told_is first h c.1 ∙ told_by_next first h normal c.0.rests.next refl
told_is first (paused ∷ h) c = told_is first h c.1 ∙ told_by_next first h pause c.0.rests.next refl
told_is first (cut k ∷ h) c = told_is first h c.1 ∙ ap (λ (rs : List Reply). without_reports (answered_of h) ++ rs) (sym (tells_kept (left_of first h)))
told_is first (halted ∷ h) c = told_is first h c.1 ∙ told_by_next first h halt c.0.next refl
told_is first (closing ∷ h) c =
    sym (append_assoc (replies_after first.tells (outcomes_of h)) (closed_tells h) (Bye ∷ []))
    ∙ ap (λ (rs : List Reply). rs ++ Bye ∷ []) (told_is first h c.1 ∙ ap (sides h) c.0.free ∙ append-nil (without_reports (answered_of h)))
told_is first (_ ∷ h) c = told_is first h c.1
