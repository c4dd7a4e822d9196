-- A reset may keep the last line from its answer: the epoch is a course up to there all the same.
use Rattle.std.proofs.Common.{◌≡◌, ◌⊎◌, inl, inr, ℕ, ◌+◌, ◌≤◌, Bool, true, false, not, ◌&&◌, ◌||◌, cond, List, [], ◌∷◌, ◌++◌, map, nat_eq, nat_lt, length, refl, sym, ap, ◌∙◌, subst}
use Rattle.flight.specs.Places.{end_from}
use Rattle.line_words.proofs.Tests.{or_false}
use Rattle.run_rules.specs.declared.State.{State}
use Rattle.run_rules.specs.Locking.{unlocks, BecomesIn}
use Rattle.run_rules.specs.Outcomes.{Before, Becomes, ByKept, ByDollar, ByCode, either, most_kept, refused}
use Rattle.run_rules.specs.Work.{Outcome, has_moves}
use Rattle.run_rules.proofs.Locking.{locked_still}
use Rattle.run_texts.specs.Courses.{behind_cut}
use Rattle.run_texts.specs.Courses.Passed.{a_broken}
use Rattle.run_texts.specs.Points.{behind_broken}
use Rattle.run_texts.specs.Sent.{Sent}
use Rattle.run_texts.specs.Sent.Sent.{a_text}
use Rattle.run_texts.specs.SoFar.{LeadsTo}
use Rattle.status_report.specs.Answering.{is_answer}
use Rattle.board_rules.specs.Conduct.{Conducted}
use Rattle.board_journal.specs.Openings.{Opening, before_first}
use Rattle.board_journal.specs.Ports.{PortStep}
use Rattle.board_journal.specs.Ports.PortStep.{answered}
use Rattle.board_journal.specs.Steps.{known_of, Step, Journal, open_of, lines_of, before_of, left_of, given_of, closed_tells}
use Rattle.board_journal.specs.Steps.Step.{at_port, began, cut, closing}
use Rattle.board_rules.specs.Turns.{is_limited, is_locked}
use Rattle.board_rules.specs.Whole.{has_any_moved, comes_to_rest}
use Rattle.board_rules.proofs.Alarms.{alarmed_is}
use Rattle.board_rules.proofs.Causing.{becomes_now}
use Rattle.board_rules.proofs.Standing.{Calm, Rested, calm_on, rested_is}
use Rattle.board_rules.proofs.Tasks.{none_closed}
use Rattle.board_epochs.specs.Epochs.{answered_state, point_of}
use Rattle.epoch_courses.specs.Course.{unanswered_at, is_unanswered, is_made, passed_by, before_by, point_behind, point_broken}
use Rattle.run_texts.proofs.SoFar.{leads_on}
use Rattle.epoch_courses.proofs.Epoch.{SameKept, SameBut, same_but, same_before, locked_on, one_more, epoch_leads, less_known}
use Rattle.epoch_courses.proofs.Made.{made_before_line}
use Rattle.epoch_courses.proofs.Tells.{tells_alone, alone_told}
use Rattle.epoch_courses.proofs.Answered.{BeginsNone, alone_on, all_answered}

-- ---- what the line would have become

-- it becomes what it does with no error of the motion, or it only tells something
idle_dollar : (b : Before) (kept : List ℕ) (o : Outcome) → ByDollar true b kept o → ByDollar false b kept o ⊎ (tells_alone o.work ≡ true)
idle_dollar b kept o (inl busy) = inr (ap (λ (x : Outcome). tells_alone x.work) busy.outcome)
idle_dollar b kept o (inr served) = inl (inr served)

idle_code : (b : Before) (kept : List ℕ) (o : Outcome) → ByCode true b kept o → ByCode false b kept o ⊎ (tells_alone o.work ≡ true)
idle_code b kept o (inl shut) = inr (ap (λ (x : Outcome). tells_alone x.work) shut.outcome)
idle_code b kept o (inr read) = inl (inr read)

by_first : (t : Bool) (A B C D E : Type 0) → (A → C ⊎ E) → (B → D ⊎ E) → either t A B → either t C D ⊎ E
by_first true A B C D E f g is = f is
by_first false A B C D E f g is = g is

idle_kept : (b : Before) (kept : List ℕ) (o : Outcome) → ByKept true b kept o → ByKept false b kept o ⊎ (tells_alone o.work ≡ true)
idle_kept b [] o is = inl is
idle_kept b (c ∷ cs) o is = by_first (nat_eq c 36) _ _ _ _ _ (idle_dollar b (c ∷ cs) o) (idle_code b (c ∷ cs) o) is

idle : (b : Before) (kept : List ℕ) (o : Outcome) → Becomes true b kept o → Becomes false b kept o ⊎ (tells_alone o.work ≡ true)
idle b kept o is = by_first (nat_lt most_kept (length kept)) _ _ _ _ _ (λ (long : o ≡ refused b 11). inl long) (idle_kept b kept o) is

-- the line begun last
abbrev pub BecomesIdle : Opening → Journal → Type 0
BecomesIdle first [] = ⊥
BecomesIdle first (began o ∷ h) = BecomesIn (is_locked first h) false (before_of first h) (open_of h) o
BecomesIdle first (_ ∷ h) = BecomesIdle first h

-- a reset may keep it from its answer: the motion does not refuse it, and the machine is not locked before it or behind it
pub record IsBreakable (first : Opening) (h : Journal) : Type 0 where
  pub becomes : BecomesIdle first h
  pub locked : (made : ℕ) → (point_broken made first h).locked ≡ is_locked first h

begun_breaks : (first : Opening) (h : Journal) (o : Outcome) → Conducted first (began o ∷ h) → IsBreakable first (began o ∷ h) ⊎ (tells_alone o.work ≡ true)
begun_breaks first h o c = by_lock (is_locked first h) refl
  where
    by_idle : is_locked first h ≡ false → Becomes false (before_of first h) (open_of h) o ⊎ (tells_alone o.work ≡ true) → IsBreakable first (began o ∷ h) ⊎ (tells_alone o.work ≡ true)
    by_idle free (inr told) = inr told
    by_idle free (inl is) = inl (record {
      becomes = subst (λ (t : Bool). BecomesIn t false (before_of first h) (open_of h) o) (sym free) is;
      locked = λ made. free ∙ sym (locked_on (is_limited first.motion) (lines_of h) (open_of h) ∙ ap (λ (t : Bool). t && not (unlocks (open_of h))) free);
    })

    by_lock : (t : Bool) → is_locked first h ≡ t → IsBreakable first (began o ∷ h) ⊎ (tells_alone o.work ≡ true)
    by_lock true locked =
        let still = locked_still (before_of first h) (open_of h) o (subst (λ (t : Bool). BecomesIn t true (before_of first h) (open_of h) o) locked (becomes_now first h o c)) in
        inr (ap tells_alone still.work ∙ alone_told still.said)
    by_lock false free = by_idle free (idle (before_of first h) (open_of h) o (subst (λ (t : Bool). BecomesIn t true (before_of first h) (open_of h) o) free (becomes_now first h o c)))

locked_by : (t : Bool) (made : ℕ) (first : Opening) (h : Journal) → (cond t (behind_cut (end_from first.place (given_of h)) (point_broken made first h)) (point_broken made first h)).locked ≡ (point_broken made first h).locked
locked_by true made first h = refl
locked_by false made first h = refl

breaks_on : (first : Opening) (s : Step) (h : Journal) → BeginsNone s → IsBreakable first h → IsBreakable first (s ∷ h)
breaks_on first (began o) h none b = absurd none
breaks_on first (cut k) h none b = record { becomes = b.becomes; locked = λ made. locked_by (is_made made h) made first h ∙ b.locked made }
breaks_on first _ h none b = record { becomes = b.becomes; locked = b.locked }

either_on : (first : Opening) (s : Step) (h : Journal) → BeginsNone s → closed_tells (s ∷ h) ≡ [] → IsBreakable first h ⊎ (tells_alone (left_of first h) ≡ true) → IsBreakable first (s ∷ h) ⊎ (tells_alone (left_of first (s ∷ h)) ≡ true)
either_on first s h none going (inl b) = inl (breaks_on first s h none b)
either_on first s h none going (inr told) = inr (alone_on first s h none going told)

second_is : (a b : Bool) → (not a && b) ≡ true → b ≡ true
second_is true b is = absurd cc
second_is false b is = is

-- it was not before either
pub was_unanswered : (e : PortStep) (was : Bool) → unanswered_at e was ≡ true → was ≡ true
was_unanswered (answered r) was is = second_is (is_answer r) was is
was_unanswered _ was is = is

pub breakable_or_told : (first : Opening) (h : Journal) → Conducted first h → closed_tells h ≡ [] → is_unanswered h ≡ true → IsBreakable first h ⊎ (tells_alone (left_of first h) ≡ true)
breakable_or_told first [] c going one = absurd cc
breakable_or_told first (began o ∷ h) c going one = begun_breaks first h o c
breakable_or_told first (at_port e ∷ h) c going one = either_on first (at_port e) h tt going (breakable_or_told first h c.1 going (was_unanswered e (is_unanswered h) one))
breakable_or_told first (closing ∷ h) c going one = absurd (none_closed (closed_tells h) going)
breakable_or_told first (s ∷ h) c going one = either_on first s h tt going (breakable_or_told first h c.1 going one)

-- ---- where the course stands

-- a line that is broken leaves what the lines before it have left, and its number
abbrev left_behind : ℕ → Opening → Journal → Before
left_behind made first [] = before_first first
left_behind made first (began o ∷ h) = (behind_broken (point_behind made first h) o).before
left_behind made first (_ ∷ h) = left_behind made first h

broken_so : (made : ℕ) (first : Opening) (h : Journal) → SameBut (point_broken made first h).before (left_behind made first h)
broken_so made first [] = record { number = refl; kept = record { settings = refl; offsets = refl }; moved = refl; jog_moved = refl; alarmed = refl }
broken_so made first (began o ∷ h) = record { number = refl; kept = record { settings = refl; offsets = refl }; moved = refl; jog_moved = refl; alarmed = refl }
broken_so made first (cut k ∷ h) = by_made (is_made made h) (broken_so made first h)
  where
    by_made : (t : Bool) → SameBut (point_broken made first h).before (left_behind made first h)
        → SameBut (cond t (behind_cut (end_from first.place (given_of h)) (point_broken made first h)) (point_broken made first h)).before (left_behind made first h)
    by_made true s = record { number = s.number; kept = record { settings = s.kept.settings; offsets = s.kept.offsets }; moved = s.moved; jog_moved = s.jog_moved; alarmed = s.alarmed }
    by_made false s = record { number = s.number; kept = record { settings = s.kept.settings; offsets = s.kept.offsets }; moved = s.moved; jog_moved = s.jog_moved; alarmed = s.alarmed }
broken_so made first (_ ∷ h) = broken_so made first h

left_free : (made : ℕ) (first : Opening) (h : Journal) → Conducted first h → is_unanswered h ≡ true → (left_behind made first h).alarmed ≡ false
left_free made first [] c one = absurd cc
left_free made first (began o ∷ h) c one = (same_but made first h).alarmed ∙ alarmed_is first h ∙ c.0.calm
left_free made first (at_port e ∷ h) c one = left_free made first h c.1 (was_unanswered e (is_unanswered h) one)
left_free made first (_ ∷ h) c one = left_free made first h c.1 one

pub broken_free : (made : ℕ) (first : Opening) (h : Journal) → Conducted first h → is_unanswered h ≡ true → (point_broken made first h).before.alarmed ≡ false
broken_free made first h c one = (broken_so made first h).alarmed ∙ left_free made first h c one

left_number : (made : ℕ) (first : Opening) (h : Journal) → Conducted first h → is_unanswered h ≡ true → (left_behind made first h).number ≡ (before_of first h).number
left_number made first [] c one = absurd cc
left_number made first (began o ∷ h) c one = ap (λ (n : ℕ). n + 1) (same_but made first h).number
left_number made first (at_port e ∷ h) c one = left_number made first h c.1 (was_unanswered e (is_unanswered h) one)
left_number made first (_ ∷ h) c one = left_number made first h c.1 one

pub broken_number : (made : ℕ) (first : Opening) (h : Journal) → Conducted first h → is_unanswered h ≡ true → (point_broken made first h).before.number ≡ (before_of first h).number
broken_number made first h c one = (broken_so made first h).number ∙ left_number made first h c one

-- ---- the course

-- no cut comes behind it
abbrev pub IsUncut : Journal → Type 0
IsUncut [] = ⊥
IsUncut (began o ∷ h) = Unit {0}
IsUncut (cut k ∷ h) = ⊥
IsUncut (_ ∷ h) = IsUncut h

pub broken_leads : (made : ℕ) (first : Opening) (h : Journal) (tail : List Sent) → Conducted first h → known_of h ≤ made → is_unanswered h ≡ true → IsUncut h → BecomesIdle first h
    → LeadsTo (point_of first) (map a_text (lines_of h) ++ tail) (passed_by true made first h) (point_broken made first h) tail
broken_leads made first [] tail c known one uncut is = absurd is
broken_leads made first (began o ∷ h) tail c known one uncut is =
    let same = same_before made first h (made_before_line made first h o c known) in
    subst (λ (ss : List Sent). LeadsTo (point_of first) ss (passed_by false made first h ++ a_broken o ∷ []) (point_broken made first (began o ∷ h)) tail) (sym (one_more (lines_of h) (open_of h) tail))
    (leads_on (point_of first) (point_behind made first h) (point_broken made first (began o ∷ h)) _ (a_text (open_of h) ∷ tail) tail (passed_by false made first h) (a_broken o ∷ [])
    (epoch_leads made first h (a_text (open_of h) ∷ tail) c.1 known) (
      record {
        free = (same_but made first h).alarmed ∙ alarmed_is first h ∙ c.0.calm;
        answered = refl;
        becomes = subst (λ (b : Before). BecomesIn (is_locked first h) false b (open_of h) o) (sym same) is;
      },
      (refl, refl),
    ))
broken_leads made first (cut k ∷ h) tail c known one uncut is = absurd uncut
broken_leads made first (at_port e ∷ h) tail c known one uncut is = broken_leads made first h tail c.1 (less_known first e h made c known) (was_unanswered e (is_unanswered h) one) uncut is
broken_leads made first (_ ∷ h) tail c known one uncut is = broken_leads made first h tail c.1 known one uncut is

-- ---- what the answered lines leave

both_kept : (r s t : State) → SameKept r s → SameKept s t → SameKept r t
both_kept r s t a b = record { settings = a.settings ∙ b.settings; offsets = a.offsets ∙ b.offsets }

answered_kept : (first : Opening) (h : Journal) → Conducted first h → is_unanswered h ≡ false → SameKept (before_of first h).state (answered_state first h)
answered_kept first [] c all = record { settings = refl; offsets = refl }
answered_kept first (at_port (answered r) ∷ h) c all = by_answer (is_answer r) refl (λ (e : is_unanswered h ≡ false). answered_kept first h c.1 e)
  where
    by_answer : (t : Bool) → is_answer r ≡ t → (is_unanswered h ≡ false → SameKept (before_of first h).state (answered_state first h))
        → SameKept (before_of first h).state (cond (is_answer r) (before_of first h).state (answered_state first h))
    by_answer true is before = rw is (record { settings = refl; offsets = refl })
    by_answer false is before = rw is (before (let e : (not false && is_unanswered h) ≡ false = ap (λ (t : Bool). not t && is_unanswered h) (sym is) ∙ all in e))
answered_kept first (began o ∷ h) c all = absurd cc
answered_kept first (cut k ∷ h) c all = let s = answered_kept first h c.1 all in record { settings = s.settings; offsets = s.offsets }
answered_kept first (at_port e ∷ h) c all = answered_kept first h c.1 all
answered_kept first (_ ∷ h) c all = answered_kept first h c.1 all

pub kept_answered : (made : ℕ) (first : Opening) (h : Journal) → Conducted first h → is_unanswered h ≡ false → SameKept (before_by made first h).state (answered_state first h)
kept_answered made first h c all = both_kept (before_by made first h).state (before_of first h).state (answered_state first h) (same_but made first h).kept (answered_kept first h c all)

left_kept : (made : ℕ) (first : Opening) (h : Journal) → Conducted first h → is_unanswered h ≡ true → SameKept (left_behind made first h).state (answered_state first h)
left_kept made first [] c one = absurd cc
left_kept made first (at_port (answered r) ∷ h) c one = by_answer (is_answer r) refl (λ (e : is_unanswered h ≡ true). left_kept made first h c.1 e)
  where
    by_answer : (t : Bool) → is_answer r ≡ t → (is_unanswered h ≡ true → SameKept (left_behind made first h).state (answered_state first h))
        → SameKept (left_behind made first h).state (cond (is_answer r) (before_of first h).state (answered_state first h))
    by_answer true is before = absurd (let e : (not true && is_unanswered h) ≡ true = ap (λ (t : Bool). not t && is_unanswered h) (sym is) ∙ one in cc)
    by_answer false is before = rw is (before (second_is (is_answer r) (is_unanswered h) one))
left_kept made first (began o ∷ h) c one = kept_answered made first h c.1 (all_answered first h c.1 c.0.calm c.0.free)
left_kept made first (at_port e ∷ h) c one = left_kept made first h c.1 (was_unanswered e (is_unanswered h) one)
left_kept made first (_ ∷ h) c one = left_kept made first h c.1 one

pub kept_broken : (made : ℕ) (first : Opening) (h : Journal) → Conducted first h → is_unanswered h ≡ true → SameKept (point_broken made first h).before.state (answered_state first h)
kept_broken made first h c one = both_kept (point_broken made first h).before.state (left_behind made first h).state (answered_state first h) (broken_so made first h).kept (left_kept made first h c one)

-- ---- whether anything has moved

calm_there : (first : Opening) (h : Journal) → left_of first h ≡ [] → Rested first h → Calm first h
calm_there first h free (inl will) = absurd (let e = sym (ap comes_to_rest free) ∙ will in cc)
calm_there first h free (inr calm) = calm

-- what has moved, where a cut that is not made counts for nothing
moved_so : (a b : Before) → SameBut a b → has_any_moved a ≡ has_any_moved b
moved_so a b same = ap (λ (t : Bool). t || a.jog_moved) same.moved ∙ ap (λ (t : Bool). b.moved || t) same.jog_moved

begun_calm : (made : ℕ) (first : Opening) (h : Journal) (o : Outcome) → Conducted first (began o ∷ h) → ((has_moves o.work || (before_by made first h).moved) || (before_by made first h).jog_moved) ≡ false → Calm first (began o ∷ h)
begun_calm made first h o c still =
    let b = before_by made first h in
    let two = or_false (has_moves o.work || b.moved) b.jog_moved still in
    let one = or_false (has_moves o.work) b.moved two.0 in
    let none : has_any_moved (before_of first h) ≡ false = sym (moved_so b (before_of first h) (same_but made first h)) ∙ ap (λ (t : Bool). t || b.jog_moved) one.1 ∙ two.1 in
    calm_on first (began o) h c one.0 (calm_there first h c.0.free (rested_is first h c.1 c.0.going none))

left_calm : (made : ℕ) (first : Opening) (h : Journal) → Conducted first h → is_unanswered h ≡ true → has_any_moved (left_behind made first h) ≡ false → Calm first h
left_calm made first [] c one still = absurd cc
left_calm made first (began o ∷ h) c one still = begun_calm made first h o c still
left_calm made first (at_port e ∷ h) c one still = calm_on first (at_port e) h c tt (left_calm made first h c.1 (was_unanswered e (is_unanswered h) one) still)
left_calm made first (s ∷ h) c one still = calm_on first s h c tt (left_calm made first h c.1 one still)

-- if the line moves nothing, and nothing has moved before it, the machine stands
pub broken_calm : (made : ℕ) (first : Opening) (h : Journal) → Conducted first h → is_unanswered h ≡ true → has_any_moved (point_broken made first h).before ≡ false → Calm first h
broken_calm made first h c one still = left_calm made first h c one (sym (moved_so (point_broken made first h).before (left_behind made first h) (broken_so made first h)) ∙ still)

pub answered_calm : (made : ℕ) (first : Opening) (h : Journal) → Conducted first h → closed_tells h ≡ [] → left_of first h ≡ [] → has_any_moved (before_by made first h) ≡ false → Calm first h
answered_calm made first h c going free still = calm_there first h free (rested_is first h c going (sym (moved_so (before_by made first h) (before_of first h) (same_but made first h)) ∙ still))
