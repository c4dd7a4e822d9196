-- Which outcome a line has, by the first reply that is told of it.
use Rattle.std.proofs.Common.{◌≡◌, ℕ, ◌+◌, ◌⊎◌, inl, inr, Bool, true, false, cond, ◌&&◌, List, [], ◌∷◌, ◌++◌, length, nat_eq, nat_lt, refl, sym, ap, ◌∙◌, subst, arith}
use Rattle.flight.specs.Places.{origin}
use Rattle.status_report.specs.declared.Reply.{Reply}
use Rattle.status_report.specs.declared.Reply.TheVariants as replies
use Rattle.step_line.specs.declared.Record.{Record}
use Rattle.system_lines.specs.Commands.{kind_of, refused_in_run}
use Rattle.system_lines.specs.declared.Kind.{Kind as DollarKind}
use Rattle.system_lines.specs.declared.Kind.TheVariants as kinds
use Rattle.run_rules.specs.declared.State.{State}
use Rattle.run_rules.specs.declared.machine.Machine.{Machine}
use Rattle.run_rules.specs.declared.machine.Machine.TheVariants.{Stands, Runs, Jogs, Locked}
use Rattle.run_rules.specs.Finding.{refuses, ByKeptFound}
use Rattle.run_rules.specs.Outcomes.{Before, Becomes, ByKept, ByDollar, ByCode, IsBusy, IsLockedOut, refused, has_cause, begins_with_dollar, either, most_kept}
use Rattle.run_rules.specs.Work.{Outcome, tells}
use Rattle.run_rules.proofs.Finding.{becomes_still, becomes_locked}
use Rattle.line_interpreter.specs.Interpreting.{Interpreting}
use Rattle.run_texts.specs.Points.{Point, BecomesAt, opening}
use Rattle.run_texts.specs.Sent.{Sent}
use Rattle.run_texts.specs.Sent.Sent.{a_text}
use Rattle.run_texts.proofs.Errors.{told_one, begun_one}
use Rattle.audit_course.specs.declared.MotionError.{MotionError}
use Rattle.audit_course.specs.declared.MotionError.TheVariants as errors
use Rattle.audit_course.specs.declared.judge.CourseJudge.{CourseJudge}
use Rattle.audit_course.specs.SoFar.{GoesTo, HasJudged, EndsLate, MayBegin, Knows, IsErrorOf, FindsAlone, TellsAlone, left_to_tell}
use Rattle.audit_course.specs.Heard.{TellsFound}
use Rattle.audit_course.proofs.Finding.{on_either, chosen, busy_becomes, locked_becomes}
use Rattle.audit_course.proofs.Forced.{comes_before, behind_made, only_line}
use Rattle.audit_course.proofs.Beginning.{judged_point, known_at, no_alarm, taken_true, taken_false}

other : (t : Bool) (A B : Type 0) → t ≡ false → either t A B → B
other true A B e x = absurd cc
other false A B e x = x

two : {E : Type 0} (t : Bool) (A B C D : Type 0) → (A → C → E) → (t ≡ false → B → D → E) → either t A B → either t C D → E
two true A B C D f g x y = f x y
two false A B C D f g x y = g refl x y

-- a line of a kind that has no cause
pub none_caused : (r h : Bool) (b : Before) (kind : DollarKind) → r ≡ refused_in_run kind → h ≡ has_cause b kind → (r && h) ≡ false → has_cause b kind ≡ false
none_caused r h b kinds.ListSettings is cause none = sym cause ∙ (ap (λ (x : Bool). x && h) (sym is) ∙ none)
none_caused r h b kinds.ListOffsets is cause none = sym cause ∙ (ap (λ (x : Bool). x && h) (sym is) ∙ none)
none_caused r h b kinds.Setting is cause none = sym cause ∙ (ap (λ (x : Bool). x && h) (sym is) ∙ none)
none_caused r h b kinds.Jog is cause none = sym cause ∙ (ap (λ (x : Bool). x && h) (sym is) ∙ none)
none_caused r h b kinds.BareJog is cause none = sym cause ∙ (ap (λ (x : Bool). x && h) (sym is) ∙ none)
none_caused r h b kinds.ListModes is cause none = refl
none_caused r h b kinds.Unlock is cause none = refl
none_caused r h b kinds.Other is cause none = refl

-- ---- a line that the motion does not refuse

still_dollar : (b : Before) (kept : List ℕ) (u : Outcome) → (IsBusy true b kept u → ⊥) → ByDollar true b kept u → ByDollar false b kept u
still_dollar b kept u busy (inl here) = absurd (busy here)
still_dollar b kept u busy (inr is) = inr is

still_code : (b : Before) (kept : List ℕ) (u : Outcome) → (IsLockedOut true b u → ⊥) → ByCode true b kept u → ByCode false b kept u
still_code b kept u locked (inl here) = absurd (locked here)
still_code b kept u locked (inr is) = inr is

still_kept : (b : Before) (kept : List ℕ) (u : Outcome) → (begins_with_dollar kept ≡ true → IsBusy true b kept u → ⊥) → (begins_with_dollar kept ≡ false → IsLockedOut true b u → ⊥) → ByKept true b kept u → ByKept false b kept u
still_kept b [] u busy locked is = is
still_kept b (c ∷ cs) u busy locked is = on_either (nat_eq c 36) _ _ _ _ (λ e. still_dollar b (c ∷ cs) u (busy e)) (λ e. still_code b (c ∷ cs) u (locked e)) is

unless_refused : (b : Before) (kept : List ℕ) (u : Outcome) → (begins_with_dollar kept ≡ true → IsBusy true b kept u → ⊥) → (begins_with_dollar kept ≡ false → IsLockedOut true b u → ⊥) → Becomes true b kept u → Becomes false b kept u
unless_refused b kept u busy locked is = on_either (nat_lt most_kept (length kept)) _ _ _ _ (λ e x. x) (λ e. still_kept b kept u busy locked) is

-- ---- the first reply

heads_same : (r s : Reply) (xs ys : List Reply) → ◌≡◌ {A = List Reply} (r ∷ xs) (s ∷ ys) → r ≡ s
heads_same r s xs ys e = cc

-- of a line that is refused it is the error
first_error : (u : Outcome) (b : Before) (n : ℕ) (r : Reply) (xs ys : List Reply) → u ≡ refused b n → tells u.work ++ ys ≡ r ∷ xs → r ≡ replies.Error n
first_error u b n r xs ys is e = sym (heads_same (replies.Error n) r ys xs (sym (ap (λ (x : Outcome). tells x.work ++ ys) is) ∙ e))

abbrev error_number : Reply → ℕ
error_number (replies.Error n) = n
error_number _ = 0

other_error : ◌≡◌ {A = Reply} (replies.Error 8) (replies.Error 9) → ⊥
other_error e = let n : ◌≡◌ {A = ℕ} 8 9 = ap error_number e in absurd (omega (arith, n))

pub stands_alone : (j : CourseJudge) (error : MotionError) (kept : List ℕ) → j.locked ≡ false
    → (error ≡ errors.Busy → begins_with_dollar kept ≡ true → (p : Point) → Knows j p → has_cause p.before (kind_of kept) ≡ false)
    → (error ≡ errors.Locked → begins_with_dollar kept ≡ false → j.jogged ≡ false) → FindsAlone j error Stands kept
stands_alone j error kept free busy locked p knows o u found is r xs ys told fits =
    begun_one p kept u o (taken_false p.locked _ _ unlocked still) (taken_false p.locked _ _ unlocked (becomes_still p.before kept o found)) where
      unlocked : p.locked ≡ false
      unlocked = knows.locked ∙ free

      not_busy : (e : MotionError) → error ≡ e → IsErrorOf e r → begins_with_dollar kept ≡ true → IsBusy true p.before kept u → ⊥
      not_busy errors.None same f dollar here = f.0 (first_error u p.before 8 r xs ys here.outcome told)
      not_busy errors.Busy same f dollar here = absurd (let g : false ≡ true = sym (busy same dollar p knows) ∙ here.cause in cc)
      not_busy errors.Locked same f dollar here = other_error (sym (first_error u p.before 8 r xs ys here.outcome told) ∙ f)

      not_locked : (e : MotionError) → error ≡ e → IsErrorOf e r → begins_with_dollar kept ≡ false → IsLockedOut true p.before u → ⊥
      not_locked errors.None same f code here = f.1 (first_error u p.before 9 r xs ys here.outcome told)
      not_locked errors.Busy same f code here = other_error (sym f ∙ first_error u p.before 9 r xs ys here.outcome told)
      not_locked errors.Locked same f code here = absurd (let g : false ≡ true = sym (knows.jogged ∙ locked same code) ∙ here.cause in cc)

      still : Becomes false p.before kept u
      still = unless_refused p.before kept u (not_busy error refl fits) (not_locked error refl fits) (other p.locked _ _ unlocked is)

-- a machine that is locked
pub locked_alone : (j : CourseJudge) (error : MotionError) (kept : List ℕ) → j.locked ≡ true → FindsAlone j error Locked kept
locked_alone j error kept e p knows o u found is r xs ys told fits =
    let locked : p.locked ≡ true = knows.locked ∙ e in
    begun_one p kept u o (taken_true p.locked _ _ locked (chosen p.locked _ _ locked is)) (taken_true p.locked _ _ locked (becomes_locked p.before kept o found))

-- error 8
busy_is : (b : Before) (kept : List ℕ) (o : Outcome) → begins_with_dollar kept ≡ true → refused_in_run (kind_of kept) ≡ true → ByKeptFound Runs b kept o → o ≡ refused b 8
busy_is b [] o dollar here is = absurd cc
busy_is b (c ∷ cs) o dollar here is = chosen (refuses Runs (kind_of (c ∷ cs))) _ _ here (chosen (nat_eq c 36) _ _ dollar is)

-- two outcomes of which one is refused with the error that is told first
refused_one : (p : Point) (kept : List ℕ) (o u : Outcome) (n : ℕ) (r : Reply) (xs ys : List Reply) → BecomesAt true p kept o → BecomesAt true p kept u → o ≡ refused p.before n → r ≡ replies.Error n → tells u.work ++ ys ≡ r ∷ xs → u ≡ o
refused_one p kept o u n r xs ys here is o_is r_is told =
    sym (told_one p kept o u xs ys here is (ap (λ (x : Outcome). tells x.work ++ xs) o_is ∙ ap (λ (x : Reply). x ∷ xs) (sym r_is) ∙ sym told))

pub runs_alone : (j : CourseJudge) (error : MotionError) (kept : List ℕ) → error ≡ errors.Busy → j.locked ≡ false → begins_with_dollar kept ≡ true → refused_in_run (kind_of kept) ≡ true
    → ((p : Point) → Knows j p → has_cause p.before (kind_of kept) ≡ true) → FindsAlone j error Runs kept
runs_alone j error kept is_busy free dollar here cause p knows o u found is r xs ys told fits =
    two (nat_lt most_kept (length kept)) _ _ _ _ (λ x y. y ∙ sym x)
    (λ short x y. refused_one p kept o u 8 r xs ys (taken_false p.locked _ _ unlocked (busy_becomes p.before kept o dollar here (cause p knows) found)) is (busy_is p.before kept o dollar here x) (subst (λ (e : MotionError). IsErrorOf e r) is_busy fits) told)
    found (other p.locked _ _ unlocked is) where
      unlocked : p.locked ≡ false
      unlocked = knows.locked ∙ free

-- error 9
jogs_is : (b : Before) (kept : List ℕ) (o u : Outcome) → begins_with_dollar kept ≡ false → ByKeptFound Jogs b kept o → ByKept true b kept u → (u ≡ o) ⊎ (o ≡ refused b 9)
jogs_is b [] o u code x y = inl (y ∙ sym x)
jogs_is b (c ∷ cs) o u code x y = inr (other (nat_eq c 36) _ _ code x)

pub jogs_alone : (j : CourseJudge) (error : MotionError) (kept : List ℕ) → error ≡ errors.Locked → j.locked ≡ false → begins_with_dollar kept ≡ false → j.jogged ≡ true → FindsAlone j error Jogs kept
jogs_alone j error kept is_locked free code jogged p knows o u found is r xs ys told fits =
    two (nat_lt most_kept (length kept)) _ _ _ _ (λ x y. y ∙ sym x) (λ short x y. by (jogs_is p.before kept o u code x y)) found (other p.locked _ _ unlocked is) where
      unlocked : p.locked ≡ false
      unlocked = knows.locked ∙ free

      by : (u ≡ o) ⊎ (o ≡ refused p.before 9) → u ≡ o
      by (inl same) = same
      by (inr o_is) = refused_one p kept o u 9 r xs ys (taken_false p.locked _ _ unlocked (locked_becomes p.before kept o code (knows.jogged ∙ jogged) found)) is o_is (subst (λ (e : MotionError). IsErrorOf e r) is_locked fits) told

-- ---- as the code has it

pub tells_alone : (old mid new : CourseJudge) (error : MotionError) (machine : Machine) (kept : List ℕ) → MayBegin mid
    → ((first : State) (sent : List Sent) (replies : List Reply) (records : List Record) → HasJudged old first sent replies records → HasJudged mid first sent replies records)
    → mid.work ≡ old.work → mid.unanswered ≡ old.unanswered → mid.cuts ≡ old.cuts → FindsAlone mid error machine kept → TellsFound mid new machine kept → TellsAlone old new error kept
tells_alone old mid new error machine kept may stays work unanswered cuts alone tells_found first sent replies records s n more r told rest last late plain fits g =
    let here = stays first sent replies records s in
    let same : left_to_tell mid ≡ left_to_tell old = ap (λ (u : Bool). cond u [] (tells mid.work.left)) unanswered ∙ ap (λ (i : Interpreting). cond old.unanswered [] (tells i.left)) work in
    let later : EndsLate (mid.work.number + 1) rest = subst (λ (i : Interpreting). EndsLate (i.number + 1) rest) (sym work) late in
    let on = here.forth n (a_text kept ∷ more) (r ∷ told) rest last
    (record { late = comes_before mid.work.number (mid.work.number + 1) rest (omega arith) later; resets = λ u. absurd (let f : false ≡ true = sym may.answered ∙ u in cc) })
    (subst (λ (c : ℕ). GoesTo (opening first) [] [] origin (n + c) (sent ++ a_text kept ∷ more) (replies ++ (left_to_tell mid ++ r ∷ told)) (records ++ rest) last) (sym cuts)
    (subst (λ (rs : List Reply). GoesTo (opening first) [] [] origin (n + old.cuts) (sent ++ a_text kept ∷ more) (replies ++ (rs ++ r ∷ told)) (records ++ rest) last) (sym same) g)) in
    let line = only_line here.point last here.since here.begun here.from n kept more r told (here.made ++ rest) (no_alarm mid here.point here.hand here.line may)
    (behind_made (here.point.before.number + 1) here.made rest here.is_made.inside (subst (λ (m : ℕ). EndsLate (m + 1) rest) (sym here.number) later)) plain on in
    let at = judged_point mid first sent replies records here in
    let o = tells_found here.point here.hand at in
    let one : line.0 ≡ o.0 = alone here.point (known_at mid here.point here.hand at may) o.0 line.0 o.1 line.1 r told line.2 (sym line.3) fits in
    (line.2, line.3 ∙ ap (λ (x : Outcome). tells x.work ++ line.2) one ∙ ap (λ (rs : List Reply). rs ++ line.2) (sym o.2))
