-- A machine that was locked at the opening stands in alarm until a line unlocks it.
use Rattle.std.proofs.Common.{◌≡◌, ◌⊎◌, inl, inr, Bool, true, false, not, ◌&&◌, ◌||◌, List, [], ◌∷◌, ◌++◌, ℕ, refl, sym, ap, ◌∙◌, subst}
use Rattle.std.specs.List.{list_any}
use Rattle.std.proofs.lemmas.List.Folds.{list_any-append}
use Rattle.feed_hold.specs.declared.Motion.{Motion}
use Rattle.feed_hold.specs.declared.Motion.TheVariants as motions
use Rattle.feed_hold.specs.Motions.{Call, after}
use Rattle.feed_hold.specs.Motions.Call.{on_pause, on_unlock}
use Rattle.feed_hold.proofs.Reaching.{StaysOrReaches, reached}
use Rattle.run_rules.specs.declared.machine.Machine.TheVariants.{Locked}
use Rattle.run_rules.specs.Finding.{is_locked as is_locked_machine}
use Rattle.run_rules.specs.Locking.{unlocks, locked_behind}
use Rattle.run_rules.specs.Work.{Outcome}
use Rattle.board_journal.specs.Openings.{Opening}
use Rattle.board_journal.specs.Steps.{Journal, lines_of, open_of, motion_of}
use Rattle.board_journal.specs.Steps.Step.{began, paused, became}
use Rattle.board_rules.specs.Turns.{is_limited, stands_still, is_locked, begins_in, machine_in}
use Rattle.board_rules.specs.Conduct.{Conducted, MayHappen}
use Rattle.board_rules.proofs.Truths.{both_left}

pub other_was : {A : Type 0} (was m : Motion) → was ≡ motions.Alarm → was ≡ m → is_limited m ≡ false → A
other_was was m alarm is none = absurd (let e = sym (ap is_limited alarm) ∙ ap is_limited is ∙ none in cc)

-- nothing but an unlock changes the motion in alarm
pub stays_alarm : (call : Call) (was m : Motion) → (call ≡ on_unlock → ⊥) → was ≡ motions.Alarm → StaysOrReaches m call was → m ≡ motions.Alarm
stays_alarm call was m other alarm (inl same) = same ∙ alarm
stays_alarm call was motions.Idle other alarm (inr (inl (held, by))) = other_was was motions.Held alarm held refl
stays_alarm call was motions.Idle other alarm (inr (inr (inl (inl runs, is)))) = other_was was motions.Run alarm runs refl
stays_alarm call was motions.Idle other alarm (inr (inr (inl (inr jogs, is)))) = other_was was motions.Jog alarm jogs refl
stays_alarm call was motions.Idle other alarm (inr (inr (inr (inl (cancelled, is))))) = other_was was motions.Cancelling alarm cancelled refl
stays_alarm call was motions.Idle other alarm (inr (inr (inr (inr (locked, is))))) = absurd (other is)
stays_alarm call was motions.Run other alarm (inr (inl (inl idle, by))) = other_was was motions.Idle alarm idle refl
stays_alarm call was motions.Run other alarm (inr (inl (inr held, by))) = other_was was motions.Held alarm held refl
stays_alarm call was motions.Run other alarm (inr (inr (idle, is))) = other_was was motions.Idle alarm idle refl
stays_alarm call was motions.Holding other alarm (inr (runs, by)) = other_was was motions.Run alarm runs refl
stays_alarm call was motions.Held other alarm (inr (inl (idle, by))) = other_was was motions.Idle alarm idle refl
stays_alarm call was motions.Held other alarm (inr (inr (holds, is))) = other_was was motions.Holding alarm holds refl
stays_alarm call was motions.Jog other alarm (inr (idle, is)) = other_was was motions.Idle alarm idle refl
stays_alarm call was motions.Cancelling other alarm (inr (jogs, by)) = other_was was motions.Jog alarm jogs refl
stays_alarm call was motions.Stopping other alarm (inr (runs, is)) = other_was was motions.Run alarm runs refl
stays_alarm call was motions.Alarm other alarm (inr how) = refl

-- ---- while the machine is locked

less : (t a b : Bool) → (t && not (a || b)) ≡ true → (t && not a) ≡ true
less true false b is = refl
less true true b is = absurd cc
less false a b is = absurd cc

-- it was before a line, too
pub locked_before : (t : Bool) (ls : List (List ℕ)) (l : List ℕ) → locked_behind t (ls ++ l ∷ []) ≡ true → locked_behind t ls ≡ true
locked_before t ls l is = less t (list_any unlocks ls) (list_any unlocks (l ∷ [])) (sym (ap (λ (b : Bool). t && not b) (list_any-append unlocks ls (l ∷ []))) ∙ is)

opens_alarm : (m : Motion) → stands_still m ≡ true → is_limited m ≡ true → m ≡ motions.Alarm
opens_alarm motions.Alarm stands is = refl
opens_alarm motions.Idle stands is = absurd cc
opens_alarm m stands is = absurd cc

no_unlock : (first : Opening) (h : Journal) (call : Call) → MayHappen first call h → is_locked first h ≡ true → call ≡ on_unlock → ⊥
no_unlock first h call may locked is = let unlocks : MayHappen first on_unlock h = subst (λ (x : Call). MayHappen first x h) is may in absurd (let e = sym locked ∙ unlocks.unlocked in cc)

pub locked_stands : (first : Opening) (h : Journal) → Conducted first h → is_locked first h ≡ true → motion_of first h ≡ motions.Alarm
locked_stands first [] c locked = opens_alarm first.motion c.stands (both_left (is_limited first.motion) _ locked)
locked_stands first (began o ∷ h) c locked = locked_stands first h c.1 (locked_before (is_limited first.motion) (lines_of h) (open_of h) locked)
locked_stands first (paused ∷ h) c locked = absurd (let e = sym (ap (after on_pause) (locked_stands first h c.1 locked)) ∙ c.0.held in cc)
locked_stands first (became call m ∷ h) c locked =
    stays_alarm call (motion_of first h) m (no_unlock first h call c.0.1 locked) (locked_stands first h c.1 locked) (reached call (motion_of first h) m c.0.0)
locked_stands first (_ ∷ h) c locked = locked_stands first h c.1 locked

-- ---- how a line is begun

pub or_false : (a b : Bool) → (a || b) ≡ true → b ≡ false → a ≡ true
or_false true b is none = refl
or_false false true is none = absurd cc
or_false false false is none = is

by_truth : {A : Type 0} (b : Bool) → (b ≡ true → A) → (b ≡ false → A) → A
by_truth true f g = f refl
by_truth false f g = g refl

-- where the machine is not found locked it stands, runs or jogs
pub begins_unless : (first : Opening) (h : Journal) (o : Outcome) → Conducted first (began o ∷ h) → (machine_in (motion_of first h) ≡ Locked → ⊥) → begins_in (motion_of first h) ≡ true
begins_unless first h o c other = by_truth (is_locked first h)
    (λ locked. absurd (other (ap machine_in (locked_stands first h c.1 locked))))
    (λ free. or_false (begins_in (motion_of first h)) (is_locked first h) c.0.begins free)

-- a line is begun where it stands, runs or jogs, or in alarm
pub begins_or_locked : (first : Opening) (h : Journal) (o : Outcome) → Conducted first (began o ∷ h) → (begins_in (motion_of first h) ≡ true) ⊎ (motion_of first h ≡ motions.Alarm)
begins_or_locked first h o c = by_truth (is_locked first h) (λ locked. inr (locked_stands first h c.1 locked)) (λ free. inl (or_false (begins_in (motion_of first h)) (is_locked first h) c.0.begins free))

free_machine : (m : Motion) → begins_in m ≡ true → is_locked_machine (machine_in m) ≡ false
free_machine motions.Idle begins = refl
free_machine motions.Run begins = refl
free_machine motions.Jog begins = refl
free_machine m begins = absurd cc

-- a line finds the machine locked exactly where it is
pub finds_locked : (first : Opening) (h : Journal) (o : Outcome) → Conducted first (began o ∷ h) → is_locked_machine (machine_in (motion_of first h)) ≡ is_locked first h
finds_locked first h o c = by_truth (is_locked first h)
    (λ locked. ap (λ (m : Motion). is_locked_machine (machine_in m)) (locked_stands first h c.1 locked) ∙ sym locked)
    (λ free. free_machine (motion_of first h) (or_false (begins_in (motion_of first h)) (is_locked first h) c.0.begins free) ∙ sym free)
