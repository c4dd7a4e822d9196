-- A machine that was locked as its epoch began is told in alarm until a line unlocks it.
use Rattle.std.proofs.Common.{◌≡◌, ◌⊎◌, inl, inr, ◌≤◌, ◌+◌, ℕ, zero, suc, Bool, true, false, not, ◌&&◌, ◌||◌, List, [], ◌∷◌, ◌++◌, length, length-append, take, reverse, refl, sym, ap, ◌∙◌, subst, arith}
use Rattle.std.specs.List.{list_any}
use Rattle.std.proofs.lemmas.Bool.{or_left}
use Rattle.std.proofs.lemmas.List.{take-append-le, take_all, reverse-append}
use Rattle.std.proofs.lemmas.List.Folds.{list_any-append}
use Rattle.feed_hold.specs.declared.Motion.{Motion}
use Rattle.feed_hold.specs.declared.Motion.TheVariants as motions
use Rattle.feed_hold.specs.Motions.{Call}
use Rattle.feed_hold.specs.Motions.Call.{on_limit}
use Rattle.feed_hold.proofs.Reaching.{StaysOrReaches, reached}
use Rattle.line_words.proofs.Tests.{or_false}
use Rattle.run_rules.specs.Locking.{unlocks, locked_behind}
use Rattle.run_rules.specs.Reports.{raises_alarm}
use Rattle.run_rules.specs.Work.{Outcome}
use Rattle.status_report.proofs.Answered.{answers_on}
use Rattle.status_report.specs.Answering.{answers_in, is_report}
use Rattle.status_report.specs.declared.Reply.{Reply}
use Rattle.status_report.specs.declared.Reply.TheVariants as replies
use Rattle.status_report.specs.declared.reports.Report.{Report}
use Rattle.status_report.specs.declared.reports.State.TheVariants as told
use Rattle.board_rules.specs.Conduct.{Conducted, IsReportAt, IsLocked, MayHappen, shown_as}
use Rattle.board_journal.specs.Openings.{Opening}
use Rattle.board_journal.specs.Ports.PortStep.{answered, reported}
use Rattle.board_journal.specs.Steps.{Journal, answered_of, has_limited, lines_of, open_of, outcomes_of, motion_of}
use Rattle.board_journal.specs.Steps.Step.{at_port, began, paused, became}
use Rattle.board_rules.specs.Turns.{is_limited}
use Rattle.board_rules.proofs.Alarms.{limited_alarmed}
use Rattle.board_rules.proofs.Calming.{standing}
use Rattle.board_rules.proofs.Lined.{as_many}
use Rattle.board_rules.proofs.Locking.{locked_stands}
use Rattle.board_rules.proofs.Phases.{done_of, phase_is, count_is, answers_reverse}
use Rattle.board_rules.proofs.Unlocking.{told_before}
use Rattle.board_epochs.specs.Reports.{TellsLock, TellLock}

-- ---- more lines

front_grows : {A : Type 0} (n : ℕ) (xs ys : List A) → (more : List A) × (take n (xs ++ ys) ≡ take n xs ++ more)
front_grows zero xs ys = ([], refl)
front_grows (suc n) [] ys = (take (suc n) ys, refl)
front_grows {A} (suc n) (x ∷ xs) ys = let g = front_grows n xs ys in (g.0, ap (λ (zs : List A). x ∷ zs) g.1)

any_more : {A : Type 0} (p : A → Bool) (n : ℕ) (xs ys : List A) → list_any p (take n xs) ≡ true → list_any p (take n (xs ++ ys)) ≡ true
any_more p n xs ys is = let g = front_grows n xs ys in ap (list_any p) g.1 ∙ list_any-append p (take n xs) g.0 ∙ or_left (list_any p (take n xs)) (list_any p g.0) is

none_fewer : {A : Type 0} (p : A → Bool) (n : ℕ) (xs ys : List A) → list_any p (take n (xs ++ ys)) ≡ false → list_any p (take n xs) ≡ false
none_fewer p n xs ys none = let g = front_grows n xs ys in (or_false (list_any p (take n xs)) (list_any p g.0) (sym (ap (list_any p) g.1 ∙ list_any-append p (take n xs) g.0) ∙ none)).0

tells_still : (ls : List (List ℕ)) (l : List ℕ) (os : List Outcome) (o : Outcome) (k : ℕ) (r : Report) → k ≤ length ls → TellsLock ls os k r → TellsLock (ls ++ l ∷ []) (os ++ o ∷ []) k r
tells_still ls l os o k r few t = record {
  locked = λ none. t.locked (none_fewer unlocks (k + 1) ls (l ∷ []) none);
  unlocked = λ some alarm. any_more raises_alarm (k + 1) os (o ∷ []) (t.unlocked (sym (ap (list_any unlocks) (take-append-le k ls (l ∷ []) few)) ∙ some) alarm);
}

fewer_answers : (r : Reply) (rs : List Reply) → answers_in rs ≤ answers_in (r ∷ rs)
fewer_answers r rs = let e = answers_on (r ∷ []) rs in omega (arith, e)

tell_still : (ls : List (List ℕ)) (l : List ℕ) (os : List Outcome) (o : Outcome) (rs : List Reply) → answers_in rs ≤ length ls → TellLock ls os rs → TellLock (ls ++ l ∷ []) (os ++ o ∷ []) rs
tell_still ls l os o [] few t = tt
tell_still ls l os o (replies.Report r ∷ rs) few t =
    let e = fewer_answers (replies.Report r) rs in (tells_still ls l os o (answers_in rs) r (omega (arith, e, few)) t.0, tell_still ls l os o rs (omega (arith, e, few)) t.1)
tell_still ls l os o (r ∷ rs) few t = let e = fewer_answers r rs in tell_still ls l os o rs (omega (arith, e, few)) t

-- ---- the lines that were answered

-- no more lines were answered than begun, and one at most is not answered
pub record AreAnswered (h : Journal) (k : ℕ) : Type 0 where
  pub few : k ≤ length (lines_of h)
  pub most : length (lines_of h) ≤ k + 1

pub answered_are : (first : Opening) (h : Journal) → Conducted first h → AreAnswered h (length (done_of h))
answered_are first h c =
    let x = standing first h (phase_is first h c) in
    let lines = ap (λ (os : List Outcome). length os) x.begun in let all = length-append (done_of h) x.more in let short = x.few in let many = as_many h in
    record { few = omega (arith, lines, all, many); most = omega (arith, lines, all, short, many) }

-- ---- where the machine stands in alarm, and no line has raised one

locked_all : (locked : Bool) (ls : List (List ℕ)) → locked_behind locked ls ≡ true → list_any unlocks ls ≡ false
locked_all true ls is = by_any (list_any unlocks ls) is
  where
    by_any : (b : Bool) → (true && not b) ≡ true → b ≡ false
    by_any false e = refl
    by_any true e = absurd cc
locked_all false ls is = absurd cc

none_in_front : (n : ℕ) (ls : List (List ℕ)) → list_any unlocks ls ≡ false → list_any unlocks (take n ls) ≡ false
none_in_front zero ls none = refl
none_in_front (suc n) [] none = refl
none_in_front (suc n) (l ∷ ls) none =
    let both = or_false (unlocks l) (list_any unlocks ls) none in ap (λ (b : Bool). b || list_any unlocks (take n ls)) both.0 ∙ none_in_front n ls both.1

-- nothing but a limit leads there
stood_before : (first : Opening) (h : Journal) (call : Call) (was m : Motion) → Conducted first h → motion_of first h ≡ was → MayHappen first call h → has_limited h ≡ false → StaysOrReaches m call was → m ≡ motions.Alarm → motion_of first h ≡ motions.Alarm
stood_before first h call was motions.Alarm c is may none (inl same) alarm = is ∙ sym same
stood_before first h call was motions.Alarm c is may none (inr (inl (idle, by))) alarm = absurd (let l : MayHappen first on_limit h = subst (λ (x : Call). MayHappen first x h) by may in let e = sym l.alarmed ∙ none in cc)
stood_before first h call was motions.Alarm c is may none (inr (inr (stops, by))) alarm = by_cause (limited_alarmed first h c (ap is_limited (is ∙ stops)))
  where
    by_cause : (has_limited h ≡ true) ⊎ IsLocked first h → motion_of first h ≡ motions.Alarm
    by_cause (inl some) = absurd (let e = sym some ∙ none in cc)
    by_cause (inr locked) = locked.1
stood_before first h call was m c is may none how alarm = absurd cc

-- no answered line unlocks the machine
untold : (first : Opening) (h : Journal) → Conducted first h → has_limited h ≡ false → motion_of first h ≡ motions.Alarm → list_any unlocks (take (length (done_of h)) (lines_of h)) ≡ false
untold first [] c none alarm = refl
untold first (at_port (answered r) ∷ h) c none alarm = none_in_front (length (done_of (at_port (answered r) ∷ h))) (lines_of h) (locked_all (is_limited first.motion) (lines_of h) (told_before first h r c alarm none))
untold first (began o ∷ h) c none alarm =
    ap (list_any unlocks) (take-append-le (length (done_of h)) (lines_of h) (open_of h ∷ []) (answered_are first h c.1).few) ∙ untold first h c.1 c.0.calm alarm
untold first (paused ∷ h) c none alarm = absurd cc
untold first (became call m ∷ h) c none alarm =
    untold first h c.1 none (stood_before first h call (motion_of first h) m c.1 refl c.0.1 none (reached call (motion_of first h) m c.0.0) alarm)
untold first (_ ∷ h) c none alarm = untold first h c.1 none alarm

-- ---- one report

shown_limited : (m : Motion) → shown_as m ≡ told.Alarm → is_limited m ≡ true
shown_limited motions.Alarm is = refl
shown_limited motions.Stopping is = refl
shown_limited _ is = absurd cc

limited_any : (h : Journal) → has_limited h ≡ true → list_any raises_alarm (outcomes_of h) ≡ true
limited_any [] is = absurd cc
limited_any (began o ∷ h) is = list_any-append raises_alarm (outcomes_of h) (o ∷ []) ∙ or_last (list_any raises_alarm (outcomes_of h)) (raises_alarm o) is
  where
    or_last : (a b : Bool) → b ≡ true → (a || (b || false)) ≡ true
    or_last true b e = refl
    or_last false true e = refl
    or_last false false e = absurd cc
limited_any (_ ∷ h) is = limited_any h is

still_locked : (locked : Bool) (ls : List (List ℕ)) → locked ≡ true → list_any unlocks ls ≡ false → locked_behind locked ls ≡ true
still_locked true ls is none = ap not none
still_locked false ls is none = absurd cc

tells_here : (first : Opening) (h : Journal) (r : Report) → is_limited first.motion ≡ true → Conducted first h → IsReportAt first r h → TellsLock (lines_of h) (outcomes_of h) (length (done_of h)) r
tells_here first h r limited c at =
    let k = length (done_of h) in
    let a = answered_are first h c in
    let most = a.most in let many = as_many h in
    let lines : take (k + 1) (lines_of h) ≡ lines_of h = take_all (k + 1) (lines_of h) most in
    let os : take (k + 1) (outcomes_of h) ≡ outcomes_of h = take_all (k + 1) (outcomes_of h) (omega (arith, most, many)) in
    record {
      locked = λ none. at.state ∙ ap shown_as (locked_stands first h c (still_locked (is_limited first.motion) (lines_of h) limited (sym (ap (list_any unlocks) lines) ∙ none)));
      unlocked = λ some alarm. ap (list_any raises_alarm) os ∙ by_cause some (has_limited h) refl (limited_alarmed first h c (shown_limited (motion_of first h) (sym at.state ∙ alarm)));
    }
  where
    by_cause : list_any unlocks (take (length (done_of h)) (lines_of h)) ≡ true → (b : Bool) → has_limited h ≡ b → (has_limited h ≡ true) ⊎ IsLocked first h → list_any raises_alarm (outcomes_of h) ≡ true
    by_cause some true is how = limited_any h is
    by_cause some false is (inl one) = absurd (let e = sym one ∙ is in cc)
    by_cause some false is (inr locked) = absurd (let e = sym some ∙ untold first h c is locked.1 in cc)

-- ---- all of them

abbrev said : Journal → List Reply
said h = reverse (answered_of h)

newest : (rs : List Reply) (r : Reply) → reverse (rs ++ r ∷ []) ≡ r ∷ reverse rs
newest rs r = reverse-append rs (r ∷ [])

reply_first : (ls : List (List ℕ)) (os : List Outcome) (r : Reply) (rs : List Reply) → is_report r ≡ false → TellLock ls os rs → TellLock ls os (r ∷ rs)
reply_first ls os (replies.Report r) rs none t = absurd cc
reply_first ls os r rs none t = t

said_answers : (first : Opening) (h : Journal) → Conducted first h → length (done_of h) ≡ answers_in (said h)
said_answers first h c = count_is first h c ∙ sym (answers_reverse (answered_of h))

pub tell_lock : (first : Opening) (h : Journal) → is_limited first.motion ≡ true → Conducted first h → TellLock (lines_of h) (outcomes_of h) (reverse (answered_of h))
tell_lock first [] limited c = tt
tell_lock first (at_port (reported r) ∷ h) limited c =
    subst (TellLock (lines_of h) (outcomes_of h)) (sym (newest (answered_of h) (replies.Report r)))
    (subst (λ (k : ℕ). TellsLock (lines_of h) (outcomes_of h) k r) (said_answers first h c.1) (tells_here first h r limited c.1 c.0), tell_lock first h limited c.1)
tell_lock first (at_port (answered r) ∷ h) limited c =
    subst (TellLock (lines_of h) (outcomes_of h)) (sym (newest (answered_of h) r)) (reply_first (lines_of h) (outcomes_of h) r (said h) c.0.plain (tell_lock first h limited c.1))
tell_lock first (began o ∷ h) limited c =
    let few = (answered_are first h c.1).few in let k = said_answers first h c.1 in
    tell_still (lines_of h) (open_of h) (outcomes_of h) o (said h) (omega (arith, few, k)) (tell_lock first h limited c.1)
tell_lock first (_ ∷ h) limited c = tell_lock first h limited c.1
