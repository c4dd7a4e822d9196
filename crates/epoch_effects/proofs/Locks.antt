-- Reports tell of an alarm while the machine is locked, and of none behind the line that unlocks it.
use Rattle.std.proofs.Common.{◌≡◌, ℕ, suc, zero, ◌+◌, ◌≤◌, ◌⊎◌, inl, inr, ◌&&◌, ◌||◌, not, if◌then◌else◌, Bool, true, false, cond, nat_eq, nat_lt, List, [], ◌∷◌, ◌++◌, map, length, take, reverse, codes, unwrap_or, refl, sym, ap, ◌∙◌, subst, arith, Some, None}
use Rattle.std.specs.List.{list_any, enumerate_from}
use Rattle.std.proofs.lemmas.Bool.{or_left}
use Rattle.std.proofs.lemmas.List.{length-append, reverse-append, take-append-le, take_all}
use Rattle.std.proofs.lemmas.List.Folds.{list_any-append}
use Rattle.std.proofs.lemmas.Slice.Eq.{bytes_eq-Decides}
use Rattle.std.specs.Str.{bytes_eq}
use Rattle.feed_hold.specs.declared.Motion.{Motion}
use Rattle.feed_hold.specs.declared.Motion.TheVariants as motions
use Rattle.feed_hold.specs.Motions.{Call}
use Rattle.feed_hold.specs.Motions.Call.{on_limit}
use Rattle.feed_hold.proofs.Reaching.{StaysOrReaches, reached}
use Rattle.run_rules.specs.declared.State.{State}
use Rattle.run_rules.specs.Locking.{is_unlock, unlocks, ByLockedDollar, ByLockedKept, BecomesLocked, BecomesIn}
use Rattle.run_rules.specs.Outcomes.{Before, ByCommand, refused, told as told_line, most_kept}
use Rattle.run_rules.specs.Reports.{raises_alarm}
use Rattle.run_rules.specs.Work.{Outcome, is_limit}
use Rattle.run_rules.proofs.Answering.{telling_tells}
use Rattle.run_rules.proofs.Each.{IsListing, by_either, holds_of_bodies, holds_of_commands}
use Rattle.status_report.specs.Answering.{answers_in, is_report, is_answer}
use Rattle.status_report.specs.Lists.{setting_replies, offset_replies, row_places}
use Rattle.status_report.specs.declared.Reply.{Reply}
use Rattle.status_report.specs.declared.Reply.TheVariants as replies
use Rattle.status_report.specs.declared.reports.Report.{Report}
use Rattle.status_report.specs.declared.reports.State.TheVariants as shown
use Rattle.status_report.proofs.Answered.{answers_first}
use Rattle.settings.specs.declared.Settings.{Settings}
use Rattle.settings.specs.Numbers.{values}
use Rattle.modal_state.specs.declared.Offsets.{Offsets}
use Rattle.units.specs.declared.Nm3.{Nm3}
use Rattle.system_lines.specs.Commands.{kind_of, command_of, is_setting_line, is_jog_line, has_jog}
use Rattle.system_lines.specs.declared.Kind.{Kind as DollarKind}
use Rattle.system_lines.specs.declared.Kind.TheVariants as kinds
use Rattle.board_rules.specs.Conduct.{Conducted, IsLocked, IsReportAt, MayHappen, shown_as}
use Rattle.board_journal.specs.Openings.{Opening}
use Rattle.board_journal.specs.Ports.PortStep.{answered, reported}
use Rattle.board_journal.specs.Steps.{Journal, lines_of, open_of, outcomes_of, answered_of, motion_of, has_limited, before_of}
use Rattle.board_journal.specs.Steps.Step.{at_port, began, became, paused}
use Rattle.board_rules.specs.Turns.{is_limited, is_locked}
use Rattle.board_rules.proofs.Alarms.{limited_alarmed, opposite}
use Rattle.board_rules.proofs.Calming.{standing}
use Rattle.board_rules.proofs.Causing.{becomes_now}
use Rattle.board_rules.proofs.Locking.{locked_stands}
use Rattle.board_rules.proofs.Phases.{done_of, phase_is, count_is, answers_reverse}
use Rattle.board_rules.proofs.Unlocking.{told_before}
use Rattle.epoch_courses.proofs.Epoch.{locked_on}
use Rattle.epoch_effects.specs.Locks.{says_unlocked, has_unlocked, locked_still, ShowsLock, ShowLocks}

-- ---- which line unlocks the machine

by_tests : (s j hj d g x o : Bool)
    → is_unlock (if s then kinds.Setting else if j then if hj then kinds.Jog else kinds.BareJog else unwrap_or (cond d (Some kinds.ListSettings) (cond g (Some kinds.ListModes) (cond x (Some kinds.Unlock) (cond o (Some kinds.ListOffsets) None)))) kinds.Other) ≡ true
    → x ≡ true
by_tests true j hj d g x o is = absurd cc
by_tests false true true d g x o is = absurd cc
by_tests false true false d g x o is = absurd cc
by_tests false false hj true g x o is = absurd cc
by_tests false false hj false true x o is = absurd cc
by_tests false false hj false false true o is = refl
by_tests false false hj false false false true is = absurd cc
by_tests false false hj false false false false is = absurd cc

unlock_spelled : (line : List ℕ) → unlocks line ≡ true → line ≡ codes "$X"
unfolding kind_of
unlock_spelled line is =
    (bytes_eq-Decides line (codes "$X")).0
    (by_tests (is_setting_line line) (is_jog_line line) (has_jog line) (bytes_eq line (codes "$$")) (bytes_eq line (codes "$G")) (bytes_eq line (codes "$X")) (bytes_eq line (codes "$#")) is)

no_unlock : (t : Bool) → (t ≡ true → ⊥) → t ≡ false
no_unlock true none = absurd (none refl)
no_unlock false none = refl

long_none : (kept : List ℕ) → nat_lt most_kept (length kept) ≡ true → unlocks kept ≡ false
long_none kept long = no_unlock (unlocks kept) (λ is. let few = ap (λ (line : List ℕ). nat_lt most_kept (length line)) (unlock_spelled kept is) in absurd (let e = sym long ∙ few in cc))

code_none : (c : ℕ) (cs : List ℕ) → nat_eq c 36 ≡ false → unlocks (c ∷ cs) ≡ false
code_none c cs other = no_unlock (unlocks (c ∷ cs)) (λ is. let first : c ≡ 36 = (let e = unlock_spelled (c ∷ cs) is in cc) in absurd (let e = sym (ap (λ (n : ℕ). nat_eq n 36) first) ∙ other in cc))

-- ---- what it says

settings_say : (rows : List (ℕ × ℕ)) → list_any says_unlocked (map (λ row. replies.Setting row.0 row.1) rows) ≡ false
settings_say [] = refl
settings_say (row ∷ rows) = settings_say rows

offsets_say : (rows : List (ℕ × Nm3)) → list_any says_unlocked (map (λ row. replies.Offset row.0 row.1) rows) ≡ false
offsets_say [] = refl
offsets_say (row ∷ rows) = offsets_say rows

settings_none : (x : Settings) → list_any says_unlocked (setting_replies x) ≡ false
unfolding setting_replies
settings_none x = settings_say (values x)

offsets_none : (offsets : Offsets) → list_any says_unlocked (offset_replies offsets) ≡ false
unfolding offset_replies
offsets_none offsets = offsets_say (enumerate_from 0 (row_places offsets))

listing_says : (body : List Reply) → IsListing body → list_any says_unlocked body ≡ false
listing_says body list = holds_of_bodies (λ (rs : List Reply). list_any says_unlocked rs ≡ false) refl settings_none (λ p. refl) offsets_none body list

none_last : (a : Bool) → a ≡ false → (a || (false || false)) ≡ false
none_last true none = absurd (let e = none in cc)
none_last false none = refl

told_says : (next : State) (body : List Reply) → list_any says_unlocked body ≡ false → has_unlocked (told_line next body) ≡ false
told_says next body none = ap (list_any says_unlocked) (telling_tells (body ++ replies.Ok ∷ [])) ∙ list_any-append says_unlocked body (replies.Ok ∷ []) ∙ none_last (list_any says_unlocked body) none

refused_says : (b : Before) (n : ℕ) (o : Outcome) → o ≡ refused b n → has_unlocked o ≡ false
refused_says b n o is = ap has_unlocked is

command_says : (b : Before) (kept : List ℕ) (o : Outcome) → ByCommand b (command_of kept) o → has_unlocked o ≡ false
command_says b kept o is =
    holds_of_commands b (λ (x : Outcome). has_unlocked x ≡ false) (command_of kept) o (λ code e. refl) (λ n value code e. refl) (λ next body same list. told_says next body (listing_says body list)) is

dollar_says : (b : Before) (kept : List ℕ) (kind : DollarKind) (o : Outcome) → ByLockedDollar b kept kind o → has_unlocked o ≡ is_unlock kind
dollar_says b kept kinds.Unlock o is = ap has_unlocked is
dollar_says b kept kinds.Jog o is = refused_says b 8 o is
dollar_says b kept kinds.BareJog o is = refused_says b 8 o is
dollar_says b kept kinds.ListSettings o is = command_says b kept o is
dollar_says b kept kinds.ListModes o is = command_says b kept o is
dollar_says b kept kinds.ListOffsets o is = command_says b kept o is
dollar_says b kept kinds.Setting o is = command_says b kept o is
dollar_says b kept kinds.Other o is = command_says b kept o is

kept_says : (b : Before) (kept : List ℕ) (o : Outcome) → ByLockedKept b kept o → has_unlocked o ≡ unlocks kept
kept_says b [] o is = ap has_unlocked is ∙ sym (no_unlock (unlocks []) (λ e. absurd (let same = unlock_spelled [] e in cc)))
kept_says b (c ∷ cs) o is =
    by_either (nat_eq c 36) _ _ _ (λ e. dollar_says b (c ∷ cs) (kind_of (c ∷ cs)) o) (λ e refuses. refused_says b 9 o refuses ∙ sym (code_none c cs e)) is

locked_says : (b : Before) (kept : List ℕ) (o : Outcome) → BecomesLocked b kept o → has_unlocked o ≡ unlocks kept
locked_says b kept o is = by_either (nat_lt most_kept (length kept)) _ _ _ (λ e refuses. refused_says b 11 o refuses ∙ sym (long_none kept e)) (λ e. kept_says b kept o) is

-- ---- while it is locked

still_on : (t : Bool) (os : List Outcome) (o : Outcome) → locked_still t (os ++ o ∷ []) ≡ (locked_still t os && not (has_unlocked o))
still_on t os o = ap (λ (b : Bool). t && not b) (list_any-append has_unlocked os (o ∷ [])) ∙ not_either t (list_any has_unlocked os) (has_unlocked o)
  where
    not_either : (t a b : Bool) → (t && not (a || (b || false))) ≡ ((t && not a) && not b)
    not_either false a b = refl
    not_either true true b = refl
    not_either true false true = refl
    not_either true false false = refl

same_still : (a b x y : Bool) → a ≡ b → (a ≡ true → x ≡ y) → (a && not x) ≡ (b && not y)
same_still true b x y same each = ap (λ (t : Bool). t && not x) same ∙ ap (λ (t : Bool). b && not t) (each refl)
same_still false b x y same each = ap (λ (t : Bool). t && not y) same

still_is : (first : Opening) (h : Journal) → Conducted first h → is_locked first h ≡ locked_still (is_limited first.motion) (outcomes_of h)
still_is first [] c = refl
still_is first (began o ∷ h) c =
    locked_on (is_limited first.motion) (lines_of h) (open_of h)
    ∙ same_still (is_locked first h) (locked_still (is_limited first.motion) (outcomes_of h)) (unlocks (open_of h)) (has_unlocked o) (still_is first h c.1)
    (λ locked. sym (locked_says (before_of first h) (open_of h) o (subst (λ (t : Bool). BecomesIn t true (before_of first h) (open_of h) o) locked (becomes_now first h o c))))
    ∙ sym (still_on (is_limited first.motion) (outcomes_of h) o)
still_is first (_ ∷ h) c = still_is first h c.1

-- ---- a machine in alarm that no line has stopped

not_stopping : {A : Type 0} (first : Opening) (h : Journal) → Conducted first h → has_limited h ≡ false → motion_of first h ≡ motions.Stopping → A
not_stopping {A = A} first h c none stops = by_cause (limited_alarmed first h c (ap is_limited stops))
  where
    by_cause : (has_limited h ≡ true) ⊎ IsLocked first h → A
    by_cause (inl one) = opposite (has_limited h) one none
    by_cause (inr locked) = absurd (let e = sym stops ∙ locked.1 in cc)

was_alarm : (first : Opening) (h : Journal) (call : Call) → Conducted first h → MayHappen first call h → has_limited h ≡ false → StaysOrReaches motions.Alarm call (motion_of first h) → motion_of first h ≡ motions.Alarm
was_alarm first h call c may none (inl same) = sym same
was_alarm first h call c may none (inr (inl (idle, is))) = let limits : MayHappen first on_limit h = subst (λ (x : Call). MayHappen first x h) is may in opposite (has_limited h) limits.alarmed none
was_alarm first h call c may none (inr (inr (stops, is))) = not_stopping first h c none stops

-- none of the answered lines has unlocked it
answered_locked : (first : Opening) (h : Journal) → Conducted first h → has_limited h ≡ false → motion_of first h ≡ motions.Alarm → locked_still (is_limited first.motion) (done_of h) ≡ true
answered_locked first [] c none alarm = ap (λ (m : Motion). is_limited m && true) alarm
answered_locked first (at_port (answered r) ∷ h) c none alarm = by_answer (is_answer r) (λ (e : has_limited h ≡ false). answered_locked first h c.1 e alarm)
  where
    by_answer : (t : Bool) → (has_limited h ≡ false → locked_still (is_limited first.motion) (done_of h) ≡ true) → locked_still (is_limited first.motion) (cond t (outcomes_of h) (done_of h)) ≡ true
    by_answer true before = sym (still_is first h c.1) ∙ told_before first h r c alarm none
    by_answer false before = before none
answered_locked first (began o ∷ h) c none alarm = answered_locked first h c.1 c.0.calm alarm
answered_locked first (paused ∷ h) c none alarm = absurd cc
answered_locked first (became call m ∷ h) c none alarm =
    answered_locked first h c.1 none (was_alarm first h call c.1 c.0.1 none (subst (λ (x : Motion). StaysOrReaches x call (motion_of first h)) alarm (reached call (motion_of first h) m c.0.0)))
answered_locked first (_ ∷ h) c none alarm = answered_locked first h c.1 none alarm

or_last : (a b : Bool) → b ≡ true → (a || (b || false)) ≡ true
or_last true b is = refl
or_last false true is = refl
or_last false false is = absurd cc

alarm_by_line : (h : Journal) → has_limited h ≡ true → list_any raises_alarm (outcomes_of h) ≡ true
alarm_by_line [] is = absurd cc
alarm_by_line (began o ∷ h) is = list_any-append raises_alarm (outcomes_of h) (o ∷ []) ∙ or_last (list_any raises_alarm (outcomes_of h)) (is_limit o.answer) is
alarm_by_line (_ ∷ h) is = alarm_by_line h is

shown_alarm : (m : Motion) → shown_as m ≡ shown.Alarm → m ≡ motions.Alarm
shown_alarm motions.Alarm is = refl
shown_alarm _ is = absurd cc

-- ---- a report that is answered now

lock_here : (first : Opening) (h : Journal) (r : Report) → Conducted first h → IsReportAt first r h → ShowsLock (is_limited first.motion) (outcomes_of h) (length (done_of h)) r
lock_here first h r c at =
    let t = is_limited first.motion in
    let x = standing first h (phase_is first h c) in
    let k = length (done_of h) in
    let lines : length (outcomes_of h) ≡ k + length x.more = ap (λ (os : List Outcome). length os) x.begun ∙ length-append (done_of h) x.more in
    let whole : take (k + 1) (outcomes_of h) ≡ outcomes_of h = (let short = x.few in take_all (k + 1) (outcomes_of h) (omega (arith, lines, short))) in
    let front : take k (outcomes_of h) ≡ done_of h = ap (take k) x.begun ∙ take-append-le k (done_of h) x.more (omega arith) ∙ take_all k (done_of h) (omega arith) in
    record {
      alarm = λ is. by_alarm (has_limited h) refl front whole (shown_alarm (motion_of first h) (sym at.state ∙ is));
      locks = λ is. at.state ∙ ap shown_as (locked_stands first h c (still_is first h c ∙ ap (locked_still t) (sym whole) ∙ is));
    }
  where
    by_alarm : (a : Bool) → has_limited h ≡ a → take (length (done_of h)) (outcomes_of h) ≡ done_of h → take (length (done_of h) + 1) (outcomes_of h) ≡ outcomes_of h → motion_of first h ≡ motions.Alarm
        → (locked_still (is_limited first.motion) (take (length (done_of h)) (outcomes_of h)) ≡ true) ⊎ (list_any raises_alarm (take (length (done_of h) + 1) (outcomes_of h)) ≡ true)
    by_alarm true one front whole alarm = inr (ap (list_any raises_alarm) whole ∙ alarm_by_line h one)
    by_alarm false none front whole alarm = inl (ap (locked_still (is_limited first.motion)) front ∙ answered_locked first h c none alarm)

-- ---- more lines are begun

front_grows : (n : ℕ) (xs ys : List Outcome) → (more : List Outcome) × (take n (xs ++ ys) ≡ take n xs ++ more)
front_grows zero xs ys = ([], refl)
front_grows (suc n) [] ys = (take (suc n) ys, refl)
front_grows (suc n) (x ∷ xs) ys = let g = front_grows n xs ys in (g.0, ap (λ (zs : List Outcome). x ∷ zs) g.1)

less : (t a b : Bool) → (t && not (a || b)) ≡ true → (t && not a) ≡ true
less true false b is = refl
less true true b is = absurd cc
less false a b is = absurd cc

lock_later : (t : Bool) (os more : List Outcome) (k : ℕ) (r : Report) → k ≤ length os → ShowsLock t os k r → ShowsLock t (os ++ more) k r
lock_later t os more k r low is =
    let g = front_grows (k + 1) os more in
    record {
      alarm = λ alarm. by_cause g.0 g.1 (is.alarm alarm);
      locks = λ still. is.locks (less t (list_any has_unlocked (take (k + 1) os)) (list_any has_unlocked g.0)
          (sym (ap (λ (xs : List Outcome). t && not (list_any has_unlocked xs)) g.1 ∙ ap (λ (b : Bool). t && not b) (list_any-append has_unlocked (take (k + 1) os) g.0)) ∙ still));
    }
  where
    by_cause : (later : List Outcome) → take (k + 1) (os ++ more) ≡ take (k + 1) os ++ later → (locked_still t (take k os) ≡ true) ⊎ (list_any raises_alarm (take (k + 1) os) ≡ true)
        → (locked_still t (take k (os ++ more)) ≡ true) ⊎ (list_any raises_alarm (take (k + 1) (os ++ more)) ≡ true)
    by_cause later same (inl still) = inl (ap (locked_still t) (take-append-le k os more low) ∙ still)
    by_cause later same (inr one) = inr (ap (list_any raises_alarm) same ∙ list_any-append raises_alarm (take (k + 1) os) later ∙ or_left (list_any raises_alarm (take (k + 1) os)) (list_any raises_alarm later) one)

locks_later : (t : Bool) (os more : List Outcome) (rs : List Reply) → answers_in rs ≤ length os → ShowLocks t os rs → ShowLocks t (os ++ more) rs
locks_later t os more [] low is = tt
locks_later t os more (replies.Report r ∷ earlier) low is =
    let first = answers_first (replies.Report r) earlier in
    let few : answers_in earlier ≤ length os = omega (arith, first, low) in
    (lock_later t os more (answers_in earlier) r few is.0, locks_later t os more earlier few is.1)
locks_later t os more (r ∷ earlier) low is = let first = answers_first r earlier in locks_later t os more earlier (omega (arith, first, low)) is

plain_first : (t : Bool) (os : List Outcome) (r : Reply) (earlier : List Reply) → is_report r ≡ false → ShowLocks t os earlier → ShowLocks t os (r ∷ earlier)
plain_first t os (replies.Report r) earlier none is = absurd cc
plain_first t os r earlier none is = is

-- no more lines are answered than were begun
few_answered : (first : Opening) (h : Journal) → Conducted first h → answers_in (reverse (answered_of h)) ≤ length (outcomes_of h)
few_answered first h c =
    let x = standing first h (phase_is first h c) in
    let lines = ap (λ (os : List Outcome). length os) x.begun ∙ length-append (done_of h) x.more in
    let count = count_is first h c in
    let same = answers_reverse (answered_of h) in
    omega (arith, lines, count, same)

pub locks_shown : (first : Opening) (h : Journal) → Conducted first h → ShowLocks (is_limited first.motion) (outcomes_of h) (reverse (answered_of h))
locks_shown first [] c = tt
locks_shown first (at_port (reported r) ∷ h) c =
    let t = is_limited first.motion in
    subst (λ (rs : List Reply). ShowLocks t (outcomes_of h) rs) (sym (reverse-append (answered_of h) (replies.Report r ∷ [])))
    (subst (λ (k : ℕ). ShowsLock t (outcomes_of h) k r) (count_is first h c.1 ∙ sym (answers_reverse (answered_of h))) (lock_here first h r c.1 c.0), locks_shown first h c.1)
locks_shown first (at_port (answered r) ∷ h) c =
    subst (λ (rs : List Reply). ShowLocks (is_limited first.motion) (outcomes_of h) rs) (sym (reverse-append (answered_of h) (r ∷ [])))
    (plain_first (is_limited first.motion) (outcomes_of h) r (reverse (answered_of h)) c.0.plain (locks_shown first h c.1))
locks_shown first (began o ∷ h) c = locks_later (is_limited first.motion) (outcomes_of h) (o ∷ []) (reverse (answered_of h)) (few_answered first h c.1) (locks_shown first h c.1)
locks_shown first (_ ∷ h) c = locks_shown first h c.1
