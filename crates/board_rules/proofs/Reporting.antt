-- The reports of a board that keeps to its rules.
use Rattle.std.proofs.Common.{◌≡◌, ℕ, ◌+◌, ◌≤◌, ◌⊎◌, inl, inr, List, [], ◌∷◌, ◌++◌, length, take, drop, reverse, true, false, Bool, cond, ◌||◌, nat_lt, sym, refl, ap, ◌∙◌, arith, append-nil, subst, length-append}
use Rattle.std.specs.List.{flat_map, list_any, sum}
use Rattle.std.proofs.lemmas.Bool.{or_left}
use Rattle.std.proofs.lemmas.Bool.Decides.{nat_tests}
use Rattle.std.proofs.lemmas.Grind.{flat_map-append}
use Rattle.std.proofs.lemmas.List.{take-append-le, take_all, reverse-append}
use Rattle.std.proofs.lemmas.List.Folds.{list_any-append}
use Rattle.feed_hold.specs.declared.Motion.{Motion}
use Rattle.feed_hold.specs.declared.Motion.TheVariants as motions
use Rattle.feed_hold.specs.Motions.{Call}
use Rattle.feed_hold.specs.Motions.Call.{on_limit}
use Rattle.feed_hold.proofs.Reaching.{StaysOrReaches, reached}
use Rattle.flight.specs.Places.{machine_from, end_from}
use Rattle.modal_state.specs.Modes.{wco_of}
use Rattle.modal_state.specs.declared.SpindleMode.{SpindleMode}
use Rattle.settings.specs.declared.Settings.{Settings}
use Rattle.units.specs.declared.Steps3.{Steps3}
use Rattle.status_report.specs.Places.{in_thousandths}
use Rattle.status_report.specs.Answering.{is_report, answers_in}
use Rattle.status_report.specs.declared.Reply.{Reply}
use Rattle.status_report.specs.declared.Reply.TheVariants as replies
use Rattle.status_report.specs.declared.reports.Report.{Report}
use Rattle.status_report.specs.declared.reports.State.{State as Shown}
use Rattle.status_report.specs.declared.reports.State.TheVariants as shown
use Rattle.step_line.specs.declared.Mark.TheVariants as marks
use Rattle.step_line.specs.declared.Piece.{Piece}
use Rattle.step_line.specs.declared.Piece.TheVariants as pieces
use Rattle.step_line.specs.Pieces.{ticks_of}
use Rattle.step_line.specs.Finishing.{ticks_together}
use Rattle.step_line.proofs.Finished.{together_both}
use Rattle.planner_runs.specs.declared.Action.{Action}
use Rattle.planner_runs.specs.declared.Action.TheVariants.{Add, Mark, Rest}
use Rattle.run_rules.specs.declared.State.{State}
use Rattle.run_rules.specs.Work.{Task, Outcome, pauses}
use Rattle.run_rules.specs.Work.Task.{pause}
use Rattle.run_rules.specs.Cuts.{ticks_asked_for}
use Rattle.run_rules.specs.Outcomes.{Before, at_place}
use Rattle.run_rules.specs.Reports.{settled_to, moves, has_pause, raises_alarm, state_behind, steps_in_thousandths, shows_machine, shows_room, turns_shown, fewest, most, may_move, is_held, Shows, Course, IsAhead, FitsReport, Reported}
use Rattle.board_journal.specs.Openings.{Opening}
use Rattle.board_journal.specs.Ports.{PortStep, BoardLog, published_in, has_held_in, has_changed_in}
use Rattle.board_journal.specs.Ports.PortStep.{answered, reported, published, loaded, found_halt}
use Rattle.board_rules.specs.Turns.{is_limited, stands_still}
use Rattle.board_journal.specs.Steps.{Step, Journal, port_log, has_limited, outcomes_of, answered_of, given_of, published_of, known_of, plan_of, motion_of, left_of, left_by, before_of}
use Rattle.board_journal.specs.Steps.Step.{at_port, began, did, made_end, paused, became, cut, halted, closing, turned}
use Rattle.board_rules.specs.Cuts.{counts_of}
use Rattle.board_rules.specs.Conduct.{Conducted, IsReportAt, MayHappen, shown_as, feed_of, ticks_given, IsLocked}
use Rattle.board_rules.specs.Whole.{course_of}
use Rattle.board_rules.proofs.Opening.{no_pauses_told, opens_still}
use Rattle.board_rules.proofs.Given.{published_within, known_within}
use Rattle.board_rules.proofs.Keeping.{by_call, held_before, unchanged_before, overrides_are}
use Rattle.board_rules.proofs.Growing.{Grows, fewest_same, most_grows, state_on, reported_still, reported_below}
use Rattle.board_rules.proofs.Phases.{done_of, phase_is, count_is, answers_reverse}
use Rattle.board_rules.proofs.Standing.{stands}
use Rattle.board_rules.proofs.Counting.{length_counts, counts_begun, counts_did}
use Rattle.board_rules.proofs.Alarms.{limited_alarmed}
use Rattle.board_rules.proofs.Shrinking.{low_behind, high_behind, halt_low, halt_high}
use Rattle.board_rules.proofs.Dropping.{pauses_kept}
use Rattle.board_rules.proofs.Calming.{standing, given_is_asked, known_is_asked, settled_ticks, settled_is_known, moving, calm_is}

-- ---- what was begun, and what was answered of it

-- two states of which reports show the same
record AreAlike (s t : State) : Type 0 where
  settings : s.settings ≡ t.settings
  wco : wco_of s.parser ≡ wco_of t.parser
  spindle : s.parser.modal.spindle ≡ t.parser.modal.spindle
  rpm : s.parser.rpm ≡ t.parser.rpm

same_state : (s t : State) → s ≡ t → AreAlike s t
same_state s t is = record {
  settings = ap (λ (x : State). x.settings) is;
  wco = ap (λ (x : State). wco_of x.parser) is;
  spindle = ap (λ (x : State). x.parser.modal.spindle) is;
  rpm = ap (λ (x : State). x.parser.rpm) is;
}

-- a cut changes the position alone
alike_on : (b : Before) (at : Steps3) (t : State) → AreAlike t b.state → AreAlike t (at_place at b).state
alike_on b at t is = record { settings = is.settings; wco = is.wco; spindle = is.spindle; rpm = is.rpm }

state_is : (first : Opening) (h : Journal) → AreAlike (state_behind first.state (outcomes_of h)) (before_of first h).state
state_is first [] = same_state first.state first.state refl
state_is first (began o ∷ h) = same_state (state_behind first.state (outcomes_of h ++ o ∷ [])) o.next (state_on first.state (outcomes_of h) o)
state_is first (cut k ∷ h) = alike_on (before_of first h) (end_from first.place (given_of h)) (state_behind first.state (outcomes_of h)) (state_is first h)
state_is first (_ ∷ h) = state_is first h

shows_alike : (place : Steps3) (s t : State) (r : Report) → AreAlike s t → Shows place t r → Shows place s r
shows_alike place s t r a is = record {
  at = is.at ∙ sym (ap (λ (x : Settings). steps_in_thousandths place x.limits.per_mm) a.settings);
  machine = is.machine ∙ sym (ap (λ (x : Settings). shows_machine x.report) a.settings);
  room = is.room ∙ sym (ap (λ (x : Settings). shows_room x.report) a.settings);
  wco = is.wco ∙ sym (ap in_thousandths a.wco);
  turns = is.turns ∙ sym (ap (λ (m : SpindleMode). turns_shown m t.parser.rpm r.ov.spindle) a.spindle) ∙ sym (ap (λ (n : ℕ). turns_shown s.parser.modal.spindle n r.ov.spindle) a.rpm);
}

-- ---- a machine that is held

pause_before : (tasks : List Task) → nat_lt 0 (pauses (drop 1 tasks)) ≡ true → nat_lt 0 (pauses tasks) ≡ true
pause_before [] is = is
pause_before (pause ∷ tasks) is = grind (arith, nat_tests)
pause_before (_ ∷ tasks) is = is

pause_behind : (a : Action) (tasks : List Task) → nat_lt 0 (pauses (left_by a tasks)) ≡ true → nat_lt 0 (pauses tasks) ≡ true
pause_behind (Add m) tasks is = pause_before tasks is
pause_behind (Mark m) tasks is = pause_before tasks is
pause_behind Rest tasks is = pause_before tasks is
pause_behind a tasks is = is

-- a line that was begun pauses
abbrev Pauses : Journal → Bool
Pauses h = list_any has_pause (outcomes_of h)

pauses_more : (h : Journal) (o : Outcome) → Pauses h ≡ true → Pauses (began o ∷ h) ≡ true
pauses_more h o is = list_any-append has_pause (outcomes_of h) (o ∷ []) ∙ or_left (Pauses h) (has_pause o || false) is

or_last : (a b : Bool) → b ≡ true → (a || (b || false)) ≡ true
or_last true b is = refl
or_last false true is = refl
or_last false false is = absurd cc

-- a pause that is left to do is of such a line
pause_by_line : (first : Opening) (h : Journal) → Conducted first h → nat_lt 0 (pauses (left_of first h)) ≡ true → Pauses h ≡ true
pause_by_line first [] c is = absurd (let e = sym is ∙ ap (nat_lt 0) (no_pauses_told first.tells) in cc)
pause_by_line first (at_port (answered r) ∷ h) c is = pause_by_line first h c.1 (pause_before (left_of first h) is)
pause_by_line first (at_port e ∷ h) c is = pause_by_line first h c.1 is
pause_by_line first (began o ∷ h) c is = list_any-append has_pause (outcomes_of h) (o ∷ []) ∙ or_last (Pauses h) (has_pause o) is
pause_by_line first (did a ps ∷ h) c is = pause_by_line first h c.1 (pause_behind a (left_of first h) is)
pause_by_line first (became call m ∷ h) c is = pause_by_line first h c.1 is
pause_by_line first (cut k ∷ h) c is = pause_by_line first h c.1 (sym (ap (nat_lt 0) (pauses_kept (left_of first h))) ∙ is)
pause_by_line first (closing ∷ h) c is = absurd cc
pause_by_line first (turned t ∷ h) c is = pause_by_line first h c.1 is
pause_by_line first (_ ∷ h) c is = pause_by_line first h c.1 (pause_before (left_of first h) is)

-- a line that was begun has raised an alarm
abbrev Alarms : Journal → Bool
Alarms h = list_any raises_alarm (outcomes_of h)

alarms_more : (h : Journal) (o : Outcome) → Alarms h ≡ true → Alarms (began o ∷ h) ≡ true
alarms_more h o is = list_any-append raises_alarm (outcomes_of h) (o ∷ []) ∙ or_left (Alarms h) (raises_alarm o || false) is

alarm_by_line : (h : Journal) → has_limited h ≡ true → Alarms h ≡ true
alarm_by_line [] is = absurd cc
alarm_by_line (began o ∷ h) is = list_any-append raises_alarm (outcomes_of h) (o ∷ []) ∙ or_last (Alarms h) (raises_alarm o) is
alarm_by_line (_ ∷ h) is = alarm_by_line h is

-- a hold was asked for, a line pauses, or one has raised an alarm
abbrev IsHeldBy : Journal → Type 0
IsHeldBy h = (has_held_in (port_log h) ≡ true) ⊎ ((Pauses h ≡ true) ⊎ (Alarms h ≡ true))

-- it is held, or stops
abbrev halts : Motion → Bool
halts m = is_held (shown_as m)

held_later : (h : Journal) (s : Step) → (has_held_in (port_log h) ≡ true → has_held_in (port_log (s ∷ h)) ≡ true) → (Pauses h ≡ true → Pauses (s ∷ h) ≡ true)
    → (Alarms h ≡ true → Alarms (s ∷ h) ≡ true) → IsHeldBy h → IsHeldBy (s ∷ h)
held_later h s held more alarms (inl is) = inl (held is)
held_later h s held more alarms (inr (inl is)) = inr (inl (more is))
held_later h s held more alarms (inr (inr is)) = inr (inr (alarms is))

-- by what it comes to be held
held_call : (first : Opening) (h : Journal) (call : Call) (m : Motion) → MayHappen first call h → halts m ≡ true → StaysOrReaches m call (motion_of first h) → (halts (motion_of first h) ≡ true → IsHeldBy h) → IsHeldBy h
held_call first h call m may is (inl same) before = before (sym (ap halts same) ∙ is)
held_call first h call motions.Holding may is (inr how) before = inl (by_call first h call may how.1)
held_call first h call motions.Held may is (inr (inl (was, (inl by)))) before = inl (by_call first h call may by)
held_call first h call motions.Held may is (inr (inl (was, (inr by)))) before = absurd (subst (λ (x : Call). MayHappen first x h) by may)
held_call first h call motions.Held may is (inr (inr (was, by))) before = before (ap halts was)
held_call first h call motions.Stopping may is (inr how) before = let limits : MayHappen first on_limit h = subst (λ (x : Call). MayHappen first x h) how.1 may in inr (inr (alarm_by_line h limits.alarmed))
held_call first h call _ may is (inr how) before = absurd cc

halts_moves : (m : Motion) → halts m ≡ true → stands_still m ≡ false
halts_moves motions.Holding is = refl
halts_moves motions.Held is = refl
halts_moves motions.Stopping is = refl
halts_moves m is = absurd cc

held_is : (first : Opening) (h : Journal) → Conducted first h → halts (motion_of first h) ≡ true → IsHeldBy h
held_is first [] c is = opens_still first first.motion c refl (halts_moves first.motion is)
held_is first (at_port e ∷ h) c is = held_later h (at_port e) (held_before e (has_held_in (port_log h))) (λ x. x) (λ x. x) (held_is first h c.1 is)
held_is first (began o ∷ h) c is = held_later h (began o) (λ x. x) (pauses_more h o) (alarms_more h o) (held_is first h c.1 is)
held_is first (paused ∷ h) c is = inr (inl (pause_by_line first h c.1 (let e = ap pauses c.0.rests.next in grind (arith, nat_tests))))
held_is first (became call m ∷ h) c is =
    held_call first h call m c.0.1 is (reached call (motion_of first h) m c.0.0) (λ (was : halts (motion_of first h) ≡ true). held_is first h c.1 was)
held_is first (_ ∷ h) c is = held_is first h c.1 is

-- ---- a report that is answered now

abbrev ShowsStill : Shown → Type 0
ShowsStill s = (s ≡ shown.Idle) ⊎ ((s ≡ shown.Hold0) ⊎ (s ≡ shown.Alarm))

shown_still : (m : Motion) → stands m ≡ true → ShowsStill (shown_as m)
shown_still motions.Idle is = inl refl
shown_still motions.Held is = inr (inl refl)
shown_still motions.Alarm is = inr (inr refl)
shown_still m is = absurd cc

still_told : (r : Report) (m : Motion) → r.state ≡ shown_as m → stands m ≡ true → ShowsStill r.state
still_told r m is still = subst ShowsStill (sym is) (shown_still m still)

-- only a machine in alarm is told as that
shown_alarm : (m : Motion) → shown_as m ≡ shown.Alarm → is_limited m ≡ true
shown_alarm motions.Alarm is = refl
shown_alarm motions.Stopping is = refl
shown_alarm _ is = absurd cc

abbrev AlarmsTo : ℕ → Journal → Type 0
AlarmsTo n h = list_any raises_alarm (take n (outcomes_of h)) ≡ true

held_front : (h : Journal) (n : ℕ) → take n (outcomes_of h) ≡ outcomes_of h → IsHeldBy h
    → (has_held_in (port_log h) ≡ true) ⊎ ((list_any has_pause (take n (outcomes_of h)) ≡ true) ⊎ AlarmsTo n h)
held_front h n all (inl some) = inl some
held_front h n all (inr (inl is)) = inr (inl (ap (list_any has_pause) all ∙ is))
held_front h n all (inr (inr is)) = inr (inr (ap (list_any raises_alarm) all ∙ is))

alarm_front : (first : Opening) (h : Journal) (n : ℕ) (r : Report) → Conducted first h → take n (outcomes_of h) ≡ outcomes_of h → r.state ≡ shown_as (motion_of first h) → r.state ≡ shown.Alarm
    → (is_limited first.motion ≡ true) ⊎ AlarmsTo n h
alarm_front first h n r c all state is = by_cause (limited_alarmed first h c (shown_alarm (motion_of first h) (sym state ∙ is)))
  where
    by_cause : (has_limited h ≡ true) ⊎ IsLocked first h → (is_limited first.motion ≡ true) ⊎ AlarmsTo n h
    by_cause (inl alarmed) = inr (ap (list_any raises_alarm) all ∙ alarm_by_line h alarmed)
    by_cause (inr locked) = inl (ap is_limited locked.0)

one_more : (k n lines : ℕ) → lines ≡ k + n → n ≤ 1 → (lines ≡ k) ⊎ (lines ≡ k + 1)
one_more k n lines is few = by_test (nat_lt n 1) refl
  where
    by_test : (b : Bool) → nat_lt n 1 ≡ b → (lines ≡ k) ⊎ (lines ≡ k + 1)
    by_test true t = inl (grind (arith, nat_tests))
    by_test false t = inr (grind (arith, nat_tests))

at_rest : (n g v f : ℕ) → g ≤ n → f ≡ cond (nat_lt n g) v 0 → f ≡ 0
at_rest n g v f below is = is ∙ ap (λ (b : Bool). cond b v 0) (let t : nat_lt n g ≡ false = grind (arith, nat_tests) in t)

ahead_or_none : (c : Course) (k n g v f : ℕ) → f ≡ cond (nat_lt n g) v 0 → g ≤ most k c.counts → g ≤ c.given → (f ≡ 0) ⊎ IsAhead c k n
ahead_or_none c k n g v f is asked whole = by_test (nat_lt n g) refl
  where
    by_test : (b : Bool) → nat_lt n g ≡ b → (f ≡ 0) ⊎ IsAhead c k n
    by_test true t = inr (record { given = g; below = grind (arith, nat_tests); asked = asked; whole = whole })
    by_test false t = inl (is ∙ ap (λ (b : Bool). cond b v 0) t)

-- behind as many answers as lines were answered
fits_here : (first : Opening) (h : Journal) (r : Report) → Conducted first h → IsReportAt first r h → FitsReport (course_of first h) (length (done_of h)) (known_of h) r
fits_here first h r c at =
    let x = standing first h (phase_is first h c) in
    let k = length (done_of h) in
    let os = outcomes_of h in
    let D = done_of h in
    let lines : length os ≡ k + length x.more = ap (λ (os : List Outcome). length os) x.begun ∙ length-append D x.more in
    let short = x.few in
    let counts = counts_of first h in
    let long = length_counts first h c in
    let whole : take (k + 1) os ≡ os = take_all (k + 1) os (omega (arith, lines, short)) in
    let front : take k os ≡ D = ap (take k) x.begun ∙ take-append-le k D x.more (omega arith) ∙ take_all k D (omega arith) in
    let settled : settled_to (take k os) ≡ settled_to D = ap settled_to front in
    let least : fewest k os counts ≡ settled_ticks first h = ap (λ (n : ℕ). sum (take n counts)) settled in
    let greatest : most k counts ≡ sum counts = ap sum (take_all (k + 1) counts (omega (arith, lines, short, long))) in
    let known = known_within first h c in
    let asked = known_is_asked first h c in
    let low = settled_is_known first h c in
    let given = given_is_asked first h c in
    let moved : may_move k os ≡ moving h =
    ap (λ (n : ℕ). list_any moves (drop n (take (k + 1) os))) settled ∙ ap (λ (os : List Outcome). list_any moves (drop (settled_to D) os)) whole in
    let place = machine_from first.place (published_of h) (known_of h) in
    let state : AreAlike (state_behind first.state (take (length os) os)) (before_of first h).state =
    subst (λ (xs : List Outcome). AreAlike (state_behind first.state xs) (before_of first h).state) (sym (take_all (length os) os (omega arith))) (state_is first h) in
    record {
      lines = length os;
      of_lines = one_more k (length x.more) (length os) lines short;
      begun = omega arith;
      answered = omega (arith, lines);
      made = known;
      low = omega (arith, least, low);
      high = omega (arith, greatest, asked);
      shows = shows_alike place (state_behind first.state (take (length os) os)) (before_of first h).state r state at.shows;
      speed = λ is. at_rest (known_of h) (ticks_given h) (feed_of (plan_of h).speed) r.f (omega (arith, is, greatest, given)) at.feed;
      ahead = ahead_or_none (course_of first h) k (known_of h) (ticks_given h) (feed_of (plan_of h).speed) r.f at.feed (omega (arith, greatest, given)) (omega arith);
      state = λ none. still_told r (motion_of first h) at.state (calm_is first h c (sym moved ∙ none)).still;
      holds = λ is. held_front h (k + 1) whole (held_is first h c (sym (ap is_held at.state) ∙ is));
      alarm = alarm_front first h (k + 1) r c whole at.state;
      overrides = λ none. at.overrides ∙ overrides_are first h c none;
    }

abbrev said : Journal → List Reply
said h = reverse (answered_of h)

fits : (first : Opening) (h : Journal) (r : Report) → Conducted first h → IsReportAt first r h → FitsReport (course_of first h) (answers_in (said h)) (known_of h) r
fits first h r c at =
    subst (λ (k : ℕ). FitsReport (course_of first h) k (known_of h) r) (count_is first h c ∙ sym (answers_reverse (answered_of h))) (fits_here first h r c at)

-- ---- the whole run

-- the same counts
low_same : (k : ℕ) (os : List Outcome) (ns ms : List ℕ) (xs : List Outcome) → xs ≡ os → ms ≡ ns → fewest k xs ms ≤ fewest k os ns
low_same k os ns ms xs same counts = let e = ap (λ (ys : List Outcome). fewest k ys ms) same ∙ ap (fewest k os) counts in omega (arith, e)

-- a step that leaves the lines and the published pieces
same_lines : (first : Opening) (h : Journal) (s : Step) → outcomes_of (s ∷ h) ≡ outcomes_of h → counts_of first (s ∷ h) ≡ counts_of first h → published_of (s ∷ h) ≡ published_of h → ticks_given h ≤ ticks_given (s ∷ h)
    → (has_held_in (port_log h) ≡ true → has_held_in (port_log (s ∷ h)) ≡ true) → (has_changed_in (port_log (s ∷ h)) ≡ false → has_changed_in (port_log h) ≡ false)
    → Grows (course_of first h) (course_of first (s ∷ h))
same_lines first h s outcomes counts pieces given held changed = record {
  first = refl;
  place = refl;
  locked = refl;
  more = [];
  outcomes = outcomes ∙ sym (append-nil (outcomes_of h));
  low = λ k short. low_same k (outcomes_of h) (counts_of first h) (counts_of first (s ∷ h)) (outcomes_of (s ∷ h)) outcomes counts;
  high = λ k n given asked. subst (λ (ns : List ℕ). n ≤ most k ns) (sym counts) asked;
  later = [];
  ticks = ap (flat_map ticks_of) pieces ∙ sym (append-nil (flat_map ticks_of (published_of h)));
  given = given;
  held = held;
  changed = changed;
}

by_port : (first : Opening) (h : Journal) (e : PortStep) → published_of (at_port e ∷ h) ≡ published_of h → Grows (course_of first h) (course_of first (at_port e ∷ h))
by_port first h e pieces =
    same_lines first h (at_port e) refl refl pieces (omega arith) (held_before e (has_held_in (port_log h))) (unchanged_before e (has_changed_in (port_log h)))

by_itself : (first : Opening) (h : Journal) (s : Step) → outcomes_of (s ∷ h) ≡ outcomes_of h → counts_of first (s ∷ h) ≡ counts_of first h → port_log (s ∷ h) ≡ port_log h → ticks_given h ≤ ticks_given (s ∷ h) → Grows (course_of first h) (course_of first (s ∷ h))
by_itself first h s outcomes counts log given =
    same_lines first h s outcomes counts (ap (λ (l : BoardLog). published_in l) log) given (λ is. ap has_held_in log ∙ is) (λ none. sym (ap has_changed_in log) ∙ none)

by_piece : (first : Opening) (h : Journal) (p : Piece) → Grows (course_of first h) (course_of first (at_port (published p) ∷ h))
by_piece first h p = record {
  first = refl;
  place = refl;
  locked = refl;
  more = [];
  outcomes = sym (append-nil (outcomes_of h));
  low = λ k short. omega arith;
  high = λ k n given asked. asked;
  later = flat_map ticks_of (p ∷ []);
  ticks = flat_map-append ticks_of (published_of h) (p ∷ []);
  given = omega arith;
  held = λ is. is;
  changed = λ none. none;
}

low_begun : (first : Opening) (h : Journal) (o : Outcome) → Conducted first h → has_limited h ≡ false → (k : ℕ) → k ≤ length (outcomes_of h) → fewest k (outcomes_of h ++ o ∷ []) (counts_of first (began o ∷ h)) ≤ fewest k (outcomes_of h) (counts_of first h)
low_begun first h o c none k short =
    let e = ap (fewest k (outcomes_of h ++ o ∷ [])) (counts_begun first h o c none)
    ∙ fewest_same k (outcomes_of h) (o ∷ []) (counts_of first h) (ticks_asked_for o ∷ []) short (length_counts first h c) in
    omega (arith, e)

high_begun : (first : Opening) (h : Journal) (o : Outcome) → Conducted first h → has_limited h ≡ false → (k n : ℕ) → n ≤ most k (counts_of first h) → n ≤ most k (counts_of first (began o ∷ h))
high_begun first h o c none k n asked =
    let e = ap (most k) (counts_begun first h o c none) in
    let more = most_grows k (counts_of first h) (ticks_asked_for o ∷ []) in
    omega (arith, e, more, asked)

by_line : (first : Opening) (h : Journal) (o : Outcome) → Conducted first h → has_limited h ≡ false → Grows (course_of first h) (course_of first (began o ∷ h))
by_line first h o c none = record {
  first = refl;
  place = refl;
  locked = refl;
  more = o ∷ [];
  outcomes = refl;
  low = low_begun first h o c none;
  high = λ k n given asked. high_begun first h o c none k n asked;
  later = [];
  ticks = sym (append-nil (flat_map ticks_of (published_of h)));
  given = omega arith;
  held = λ is. is;
  changed = λ none. none;
}

by_cut : (first : Opening) (h : Journal) (k : ℕ) → Conducted first (cut k ∷ h) → Grows (course_of first h) (course_of first (cut k ∷ h))
by_cut first h k c = record {
  first = refl;
  place = refl;
  locked = refl;
  more = [];
  outcomes = sym (append-nil (outcomes_of h));
  low = λ n short. low_behind first h k c n;
  high = high_behind first h k c;
  later = [];
  ticks = sym (append-nil (flat_map ticks_of (published_of h)));
  given = (let e = together_both (given_of h) (pieces.Mark (marks.Cut k) ∷ []) in omega (arith, e));
  held = λ is. is;
  changed = λ none. none;
}

by_halt : (first : Opening) (h : Journal) → Conducted first (halted ∷ h) → Grows (course_of first h) (course_of first (halted ∷ h))
by_halt first h c = record {
  first = refl;
  place = refl;
  locked = refl;
  more = [];
  outcomes = sym (append-nil (outcomes_of h));
  low = λ n short. halt_low first h c n;
  high = halt_high first h c;
  later = [];
  ticks = sym (append-nil (flat_map ticks_of (published_of h)));
  given = omega arith;
  held = λ is. is;
  changed = λ none. none;
}

more_given : (h : Journal) (ps : List Piece) → ticks_given h ≤ ticks_together (given_of h ++ ps)
more_given h ps = let e = together_both (given_of h) ps in omega (arith, e)

-- a step that tells no report
goes_on : (first : Opening) (h : Journal) (s : Step) → Conducted first h → Grows (course_of first h) (course_of first (s ∷ h)) → Reported (course_of first h) (said h) (known_of h)
    → Reported (course_of first (s ∷ h)) (said h) (known_of h)
goes_on first h s c grows is = reported_still (course_of first h) (course_of first (s ∷ h)) (said h) (known_of h) (published_within first h c) grows is

-- a reply that is no report
reply_first : (c : Course) (r : Reply) (earlier : List Reply) (top : ℕ) → is_report r ≡ false → Reported c earlier top → Reported c (r ∷ earlier) top
reply_first c (replies.Report r) earlier top none is = absurd cc
reply_first c r earlier top none is = is

newest : (rs : List Reply) (r : Reply) → reverse (rs ++ r ∷ []) ≡ r ∷ reverse rs
newest rs r = reverse-append rs (r ∷ [])

pub reported_is : (first : Opening) (h : Journal) → Conducted first h → Reported (course_of first h) (said h) (known_of h)
reported_is first [] c = tt
reported_is first (at_port (reported r) ∷ h) c =
    let s = at_port (reported r) in
    let is = goes_on first h s c.1 (by_port first h (reported r) refl) (reported_is first h c.1) in
    subst (λ (rs : List Reply). Reported (course_of first (s ∷ h)) rs (known_of h)) (sym (newest (answered_of h) (replies.Report r)))
    (known_of h, omega arith, fits first h r c.1 c.0, is)
reported_is first (at_port (answered r) ∷ h) c =
    let s = at_port (answered r) in
    let is = goes_on first h s c.1 (by_port first h (answered r) refl) (reported_is first h c.1) in
    subst (λ (rs : List Reply). Reported (course_of first (s ∷ h)) rs (known_of h)) (sym (newest (answered_of h) r))
    (reply_first (course_of first (s ∷ h)) r (said h) (known_of h) c.0.plain is)
reported_is first (at_port (loaded n) ∷ h) c =
    reported_below (course_of first (at_port (loaded n) ∷ h)) (said h) (known_of h) n c.0.later (goes_on first h (at_port (loaded n)) c.1 (by_port first h (loaded n) refl) (reported_is first h c.1))
reported_is first (at_port (found_halt n) ∷ h) c = absurd c.0
reported_is first (at_port (published p) ∷ h) c = goes_on first h (at_port (published p)) c.1 (by_piece first h p) (reported_is first h c.1)
reported_is first (at_port e ∷ h) c = goes_on first h (at_port e) c.1 (by_port first h e refl) (reported_is first h c.1)
reported_is first (began o ∷ h) c = goes_on first h (began o) c.1 (by_line first h o c.1 c.0.calm) (reported_is first h c.1)
reported_is first (did a ps ∷ h) c = goes_on first h (did a ps) c.1 (by_itself first h (did a ps) refl (counts_did first h a ps c) refl (more_given h ps)) (reported_is first h c.1)
reported_is first (made_end ∷ h) c = goes_on first h made_end c.1 (by_itself first h made_end refl refl refl (more_given h _)) (reported_is first h c.1)
reported_is first (cut k ∷ h) c = goes_on first h (cut k) c.1 (by_cut first h k c) (reported_is first h c.1)
reported_is first (halted ∷ h) c = goes_on first h halted c.1 (by_halt first h c) (reported_is first h c.1)
reported_is first (s ∷ h) c = goes_on first h s c.1 (by_itself first h s refl refl refl (omega arith)) (reported_is first h c.1)
