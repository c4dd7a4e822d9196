-- Where the machine was halted: what it was given since the last cut, that nothing is given behind it but the end, and that all of it
-- is done.
use Rattle.std.proofs.Common.{◌≡◌, ℕ, zero, suc, ◌+◌, ◌-◌, ◌≤◌, Bool, true, false, ◌||◌, cond, List, [], ◌∷◌, ◌++◌, length, take, sym, refl, ap, ◌∙◌, arith, subst, append-nil}
use Rattle.std.specs.List.{flat_map, list_any, sum}
use Rattle.std.proofs.lemmas.List.{take_all}
use Rattle.overrides.specs.declared.Overrides.{Overrides}
use Rattle.plan_rules.specs.Plans.{Planned}
use Rattle.planner_runs.specs.declared.Action.{Action}
use Rattle.planner_runs.specs.declared.Action.TheVariants.{Override}
use Rattle.planner_runs.specs.Runs.{all_asked, ticks_left}
use Rattle.planner_runs.proofs.Legal.{halted_heads_are_legal}
use Rattle.board_journal.specs.Openings.{Opening}
use Rattle.run_rules.specs.Cuts.{ticks_asked_for, counts_asked}
use Rattle.run_rules.specs.Outcomes.{Passed}
use Rattle.run_rules.specs.Outcomes.Passed.{a_line}
use Rattle.run_rules.specs.Reports.{settles, settled_to}
use Rattle.run_rules.specs.Told.{asked_in}
use Rattle.run_rules.specs.Work.{Outcome, is_limit, asks, halting_work}
use Rattle.step_line.specs.Asking.{Asked, ticks_of_all}
use Rattle.step_line.specs.Finishing.{ticks_together}
use Rattle.step_line.specs.Pieces.{ticks_of}
use Rattle.step_line.specs.declared.Piece.{Piece}
use Rattle.board_journal.specs.Ports.PortStep.{loaded, found_halt}
use Rattle.board_rules.specs.Parts.{IsAlarmedPart, lines_in, counts_in}
use Rattle.board_journal.specs.Steps.{Step, Journal, has_limited, outcomes_of, known_of, given_of, planned_of, left_of, plan_after}
use Rattle.board_journal.specs.Steps.Step.{at_port, began, did, made_end, cut, halted}
use Rattle.board_rules.specs.Cuts.{part_outcomes, part_actions, part_given, part_start, part_plan, has_halted, parts_of, passed_of}
use Rattle.board_rules.specs.Conduct.{Conducted, ticks_given}
use Rattle.board_rules.proofs.Alarms.{opposite, stage_is, halted_alarmed, halted_once, halting_left, only_override, none_asked, part_plan_is}
use Rattle.board_rules.proofs.Calming.{settled_ticks, settled_is_known}
use Rattle.board_rules.proofs.Closing.{no_more_ticks}
use Rattle.board_rules.proofs.Counting.{plain_counts, length_in, asked_sum, closed_sum, given_sum}
use Rattle.board_rules.proofs.Given.{all_known}
use Rattle.board_rules.proofs.Growing.{settled_other}
use Rattle.board_rules.proofs.Keeping.{never_clears}
use Rattle.board_rules.proofs.Numbers.{lines_are}
use Rattle.board_rules.proofs.Parting.{open_part, asked_is, part_ticks}
use Rattle.board_rules.proofs.Phases.{done_of, Ends, Phase, in_line, between, unanswered, phase_is}
use Rattle.board_rules.proofs.Shrinking.{front_sum}

-- ---- the line that has raised the alarm is the last that was passed

pub record EndsInAlarm (ps : List Passed) : Type 0 where
  pub early : List Passed
  pub outcome : Outcome
  pub last : ps ≡ early ++ a_line outcome ∷ []
  pub alarm : is_limit outcome.answer ≡ true

pub alarm_last : (first : Opening) (h : Journal) → Conducted first h → has_limited h ≡ true → EndsInAlarm (passed_of first h)
alarm_last first [] c one = absurd cc
alarm_last first (began o ∷ h) c one = record { early = passed_of first h; outcome = o; last = refl; alarm = one }
alarm_last first (cut k ∷ h) c one = opposite (has_limited h) one c.0.calm
alarm_last first (_ ∷ h) c one = alarm_last first h c.1 one

-- ---- behind a halt

not_calm : {A : Type 0} (first : Opening) (h : Journal) → Conducted first h → has_halted h ≡ true → has_limited h ≡ false → A
not_calm first h c was none = opposite (has_limited h) (halted_alarmed first h c was) none

none_given : (first : Opening) (h : Journal) (a : Action) (ps : List Piece) → Conducted first (did a ps ∷ h) → has_halted h ≡ true → (o : Overrides) × (a ≡ Override o) × (ps ≡ [])
none_given first h a ps c was = only_override first h a ps c.0.0 c.0.1 (stage_is first h c.1) was

and_none : (qs ps : List Piece) → ps ≡ [] → qs ++ ps ≡ qs
and_none qs ps none = ap (λ (rs : List Piece). qs ++ rs) none ∙ append-nil qs

-- no line is begun, and the plan gives nothing
abbrev pub IsFrozen : Step → Journal → Type 0
IsFrozen s h = (outcomes_of (s ∷ h) ≡ outcomes_of h) × (planned_of (s ∷ h) ≡ planned_of h)

pub frozen : (first : Opening) (s : Step) (h : Journal) → Conducted first (s ∷ h) → has_halted h ≡ true → IsFrozen s h
frozen first (began o) h c was = not_calm first h c.1 was c.0.calm
frozen first (did a ps) h c was = (refl, and_none (planned_of h) ps (none_given first h a ps c was).2)
frozen first (cut k) h c was = not_calm first h c.1 was c.0.calm
frozen first _ h c was = (refl, refl)

-- each tick that was given is done
pub halted_known : (first : Opening) (h : Journal) → Conducted first h → has_halted h ≡ true → known_of h ≡ ticks_given h
halted_known first [] c was = absurd cc
halted_known first (at_port (loaded n) ∷ h) c was = all_known first h n c.1 c.0 (halted_known first h c.1 was)
halted_known first (at_port (found_halt n) ∷ h) c was = absurd c.0
halted_known first (began o ∷ h) c was = not_calm first h c.1 was c.0.calm
halted_known first (did a ps ∷ h) c was = halted_known first h c.1 was ∙ ap ticks_together (sym (and_none (given_of h) ps (none_given first h a ps c was).2))
halted_known first (made_end ∷ h) c was = halted_known first h c.1 was ∙ sym (no_more_ticks (given_of h))
halted_known first (cut k ∷ h) c was = not_calm first h c.1 was c.0.calm
halted_known first (halted ∷ h) c was = c.0.done
halted_known first (_ ∷ h) c was = halted_known first h c.1 was

-- ---- the journal up to the halt

-- what was begun and given since the last cut is what it was then, and the plan that was dropped stands still
record HaltedThen (first : Opening) (h : Journal) : Type 0 where
  then : Journal
  halts : Conducted first (halted ∷ then)
  outcomes : part_outcomes h ≡ part_outcomes then
  given : part_given h ≡ part_given then
  still : (part_plan h).speed ≡ 0

same_then : (first : Opening) (h : Journal) (s : Step) → part_outcomes (s ∷ h) ≡ part_outcomes h → part_given (s ∷ h) ≡ part_given h → (part_plan (s ∷ h)).speed ≡ (part_plan h).speed
    → HaltedThen first h → HaltedThen first (s ∷ h)
same_then first h s outcomes given speed t = record { then = t.then; halts = t.halts; outcomes = outcomes ∙ t.outcomes; given = given ∙ t.given; still = speed ∙ t.still }

override_speed : (a : Action) (ps : List Piece) (p : Planned) (o : Overrides) → a ≡ Override o → (plan_after a ps p).speed ≡ p.speed
override_speed a ps p o is = ap (λ (b : Action). (plan_after b ps p).speed) is

did_then : (first : Opening) (h : Journal) (a : Action) (ps : List Piece) → (o : Overrides) × (a ≡ Override o) × (ps ≡ []) → HaltedThen first h → HaltedThen first (did a ps ∷ h)
did_then first h a ps (o, is, none) t = same_then first h (did a ps) refl (and_none (part_given h) ps none) (override_speed a ps (part_plan h) o is) t

halted_then : (first : Opening) (h : Journal) → Conducted first h → has_halted h ≡ true → HaltedThen first h
halted_then first [] c was = absurd cc
halted_then first (began o ∷ h) c was = not_calm first h c.1 was c.0.calm
halted_then first (did a ps ∷ h) c was = did_then first h a ps (none_given first h a ps c was) (halted_then first h c.1 was)
halted_then first (cut k ∷ h) c was = not_calm first h c.1 was c.0.calm
halted_then first (halted ∷ h) c was = record {
  then = h;
  halts = c;
  outcomes = refl;
  given = refl;
  still = ap (λ (p : Planned). p.speed) (part_plan_is h (halted_once first h c)) ∙ c.0.still;
}
halted_then first (s ∷ h) c was = same_then first h s refl refl refl (halted_then first h c.1 was)

-- ---- the lines that settled are whole

none_settled : (os : List Outcome) → list_any settles os ≡ false → settled_to os ≡ 0
none_settled [] none = refl
none_settled (o ∷ os) none = ap (λ (b : Bool). cond b (settled_to os + 1) 0) none

any_behind : (os more : List Outcome) → list_any settles more ≡ true → list_any settles (os ++ more) ≡ true
any_behind [] more is = is
any_behind (o ∷ os) more is = by_first o.settles (any_behind os more is)
  where
    by_first : (b : Bool) → list_any settles (os ++ more) ≡ true → (b || list_any settles (os ++ more)) ≡ true
    by_first true e = refl
    by_first false e = e

settled_behind : (os more : List Outcome) → list_any settles more ≡ true → settled_to (os ++ more) ≡ length os + settled_to more
settled_behind [] more is = omega arith
settled_behind (o ∷ os) more is =
    let rest = settled_behind os more is in
    ap (λ (b : Bool). cond b (settled_to (os ++ more) + 1) 0) (any_behind (o ∷ os) more is) ∙ (omega (arith, rest))

-- the line that has raised the alarm does not settle
settled_now : (first : Opening) (h : Journal) → left_of first h ≡ halting_work → Phase first h → settled_to (outcomes_of h) ≡ settled_to (done_of h)
settled_now first h left (in_line x) = absurd (subst Ends left x.left)
settled_now first h left (between y) = ap settled_to y.all
settled_now first h left (unanswered z) = ap settled_to z.begun ∙ settled_other (done_of h) z.o z.settles

front_asked : (s : ℕ) (os : List Outcome) → take s (counts_asked os) ≡ counts_asked (take s os)
front_asked zero os = refl
front_asked (suc s) [] = refl
front_asked (suc s) (o ∷ os) = ap (λ (ns : List ℕ). ticks_asked_for o ∷ ns) (front_asked s os)

abbrev settled_asks : List Outcome → ℕ
settled_asks os = length (ticks_of_all (asked_in (take (settled_to os) os)))

some_settled : (first : Opening) (h : Journal) → Conducted first (halted ∷ h) → list_any settles (part_outcomes h) ≡ true → settled_asks (part_outcomes h) ≤ ticks_together (part_given h)
some_settled first h c is =
    let os = part_outcomes h in
    let s = settled_to os in
    let A = counts_in (parts_of first h) in
    let B = counts_asked os in
    let low : settled_ticks first h ≤ known_of h = settled_is_known first h c.1 in
    let done : known_of h ≡ ticks_given h = c.0.done in
    let at : settled_to (done_of h) ≡ length (lines_in (parts_of first h)) + s =
    sym (settled_now first h (halting_left first h c) (phase_is first h c.1)) ∙ ap settled_to (lines_are first h c.1) ∙ settled_behind (lines_in (parts_of first h)) os is in
    let long : length A ≡ length (lines_in (parts_of first h)) = length_in (parts_of first h) in
    let counts : settled_ticks first h ≡ sum (take (settled_to (done_of h)) (A ++ B)) = ap (λ (ns : List ℕ). sum (take (settled_to (done_of h)) ns)) (plain_counts first h (halted_once first h c)) in
    let split = front_sum (settled_to (done_of h)) A B in
    let whole : sum (take (settled_to (done_of h)) A) ≡ sum A = ap sum (take_all (settled_to (done_of h)) A (omega (arith, at, long))) in
    let left : settled_to (done_of h) - length A ≡ s = omega (arith, at, long) in
    let rest : sum (take (settled_to (done_of h) - length A) B) ≡ sum (take s B) = ap (λ (n : ℕ). sum (take n B)) left in
    let same : sum (take s B) ≡ settled_asks os = ap sum (front_asked s os) ∙ asked_sum (take s os) in
    let closed = closed_sum first h c.1 in
    let given = given_sum first h c.1 in
    omega (arith, low, done, counts, split, whole, rest, same, closed, given)

pub settled_whole : (first : Opening) (h : Journal) → Conducted first (halted ∷ h) → settled_asks (part_outcomes h) ≤ ticks_together (part_given h)
settled_whole first h c = by_any (list_any settles (part_outcomes h)) refl
  where
    by_any : (b : Bool) → list_any settles (part_outcomes h) ≡ b → settled_asks (part_outcomes h) ≤ ticks_together (part_given h)
    by_any true is = some_settled first h c is
    by_any false none =
        let e : settled_asks (part_outcomes h) ≡ 0 = ap (λ (n : ℕ). length (ticks_of_all (asked_in (take n (part_outcomes h))))) (none_settled (part_outcomes h) none) in
        omega (arith, e)

-- ---- the part that it ends

pub halted_part : (first : Opening) (h : Journal) → Conducted first h → has_halted h ≡ true → IsAlarmedPart first.blocks (part_outcomes h) (part_start h) (part_actions h) (part_given h) (part_plan h)
halted_part first h c was =
    let p = open_part first h c in
    let t = halted_then first h c was in
    let none : asks (left_of first h) ≡ [] = none_asked first h c (halted_alarmed first h c was) in
    let given = flat_map ticks_of (part_given h) in
    record {
      starts = p.starts;
      run = p.run;
      stops = t.still;
      heads = halted_heads_are_legal first.blocks (part_start h) (part_plan h) (part_actions h) (part_given h) p.starts (never_clears first h c) p.run t.still;
      asks = asked_is first h c ∙ ap (λ (xs : List Asked). all_asked (part_actions h) ++ xs) none ∙ append-nil (all_asked (part_actions h));
      ticks = part_ticks first h c
          ∙ ap (λ (xs : List Asked). given ++ (ticks_left (part_plan h) ++ ticks_of_all xs)) none
          ∙ ap (λ rs. given ++ rs) (append-nil (ticks_left (part_plan h)));
      settled = subst (λ (os : List Outcome). settled_asks os ≤ ticks_together (part_given h)) (sym t.outcomes)
          (subst (λ (ps : List Piece). settled_asks (part_outcomes t.then) ≤ ticks_together ps) (sym t.given) (settled_whole first t.then t.halts));
    }
