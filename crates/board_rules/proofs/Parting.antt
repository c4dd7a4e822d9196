-- What the lines since the last cut ask for was done, or is left to ask: it was given, or is left in the plan, or to ask.
use Rattle.std.proofs.Common.{◌≡◌, ℕ, ◌-◌, Bool, true, false, List, [], ◌∷◌, ◌++◌, length, length-append, take, drop, arith, sym, refl, ap, ◌∙◌, append_assoc, append-nil, subst}
use Rattle.std.specs.List.{flat_map}
use Rattle.std.proofs.lemmas.Grind.{flat_map-append}
use Rattle.std.proofs.lemmas.List.{take-append-le, take_all}
use Rattle.planner_runs.specs.declared.Action.{Action}
use Rattle.planner_runs.specs.declared.Action.TheVariants.{Add, Take, Override, Mark, Rest, Clear, Reset}
use Rattle.overrides.specs.declared.Overrides.{Overrides}
use Rattle.plan_rules.specs.Plans.{Planned}
use Rattle.planner_runs.specs.Runs.{Plans, IsStart, NeverResets, normal_overrides, cleared, asked_by, all_asked, ticks_left, ticks_left_in}
use Rattle.line_geom.specs.declared.Block.{Block}
use Rattle.planner_runs.proofs.Runs.{goes_on, grows_by_override, keeps_on, fresh_starts, clears_behind}
use Rattle.planner_runs.proofs.Ticks.{ticks_from_start}
use Rattle.board_journal.specs.Openings.{Opening}
use Rattle.run_rules.specs.Work.{Outcome, Task, asked_by_task, asks}
use Rattle.run_rules.specs.Work.Task.{ask, normal}
use Rattle.run_rules.specs.Told.{asked_in}
use Rattle.plan_rules.specs.declared.Mode.TheVariants.{Go}
use Rattle.step_line.specs.declared.Piece.{Piece}
use Rattle.step_line.specs.declared.Record.{Record}
use Rattle.step_line.specs.Asking.{Asked, ticks_of_one, ticks_of_all}
use Rattle.step_line.specs.Asking.Asked.{a_move, a_mark, a_rest}
use Rattle.step_line.specs.Pieces.{ticks_of}
use Rattle.board_journal.specs.Ports.PortStep.{answered}
use Rattle.board_journal.specs.Steps.{Journal, plan_of, left_of, left_by, plan_after}
use Rattle.board_journal.specs.Steps.Step.{at_port, began, did, made_end, evened, paused, cut, halted, closing}
use Rattle.board_rules.specs.Cuts.{part_outcomes, part_actions, part_given, part_start, part_plan, has_halted}
use Rattle.board_rules.specs.Conduct.{Conducted, MayDo, Gives}
use Rattle.board_rules.specs.Parts.{but_last}
use Rattle.board_rules.proofs.Opening.{asks_telling}
use Rattle.board_rules.proofs.Dropping.{asks_dropped}
use Rattle.board_rules.proofs.Alarms.{Stage, stage_is, only_override, part_plan_is, calm_plan}
use Rattle.board_rules.proofs.Keeping.{never_clears}

-- ---- what the lines ask for

-- what was done, and what is left to ask
abbrev asked : Journal → List Task → List Asked
asked h tasks = all_asked (part_actions h) ++ asks tasks

-- a task less, which asks for what is done
asked_by_next : (first : Opening) (h : Journal) (a : Action) (t : Task) → left_of first h ≡ t ∷ drop 1 (left_of first h) → asked_by_task t ≡ asked_by a
    → asked h (left_of first h) ≡ all_asked (part_actions h ++ a ∷ []) ++ asks (drop 1 (left_of first h))
asked_by_next first h a t next same =
    ap (asked h) next
    ∙ ap (λ (xs : List Asked). all_asked (part_actions h) ++ (xs ++ asks (drop 1 (left_of first h)))) same
    ∙ sym (append_assoc (all_asked (part_actions h)) (asked_by a) (asks (drop 1 (left_of first h))))
    ∙ ap (λ (xs : List Asked). xs ++ asks (drop 1 (left_of first h)))
    (ap (λ (xs : List Asked). all_asked (part_actions h) ++ xs) (sym (append-nil (asked_by a))) ∙ sym (flat_map-append asked_by (part_actions h) (a ∷ [])))

-- nothing is asked for by what is done
asked_by_none : (first : Opening) (h : Journal) (a : Action) → [] ≡ asked_by a → asked h (left_of first h) ≡ all_asked (part_actions h ++ a ∷ []) ++ asks (left_of first h)
asked_by_none first h a same =
    ap (λ (xs : List Asked). xs ++ asks (left_of first h))
    (sym (append-nil (all_asked (part_actions h))) ∙ ap (λ (xs : List Asked). all_asked (part_actions h) ++ xs) (same ∙ sym (append-nil (asked_by a)))
    ∙ sym (flat_map-append asked_by (part_actions h) (a ∷ [])))

asked_behind : (first : Opening) (h : Journal) (a : Action) → MayDo first a h → asked h (left_of first h) ≡ all_asked (part_actions h ++ a ∷ []) ++ asks (left_by a (left_of first h))
asked_behind first h (Add m) may = asked_by_next first h (Add m) (ask (a_move m)) may refl
asked_behind first h (Mark m) may = asked_by_next first h (Mark m) (ask (a_mark m)) may.next refl
asked_behind first h Rest may = asked_by_next first h Rest (ask a_rest) may.next refl
asked_behind first h (Take Go) may = asked_by_none first h (Take Go) refl
asked_behind first h Clear may = absurd may
asked_behind first h Reset may = absurd may
asked_behind first h e may = asked_by_none first h e refl

-- what the lines since the last cut ask for is what was done since, and what is left to ask
pub asked_is : (first : Opening) (h : Journal) → Conducted first h → asked_in (part_outcomes h) ≡ asked h (left_of first h)
asked_is first [] c = sym (asks_telling first.tells)
asked_is first (at_port (answered r) ∷ h) c = asked_is first h c.1 ∙ ap (asked h) c.0.next
asked_is first (began o ∷ h) c =
    flat_map-append (λ (o : Outcome). asks o.work) (part_outcomes h) (o ∷ [])
    ∙ ap (λ (a : List Asked). asked_in (part_outcomes h) ++ a) (append-nil (asks o.work))
    ∙ ap (λ (a : List Asked). a ++ asks o.work) (asked_is first h c.1 ∙ ap (asked h) c.0.free ∙ append-nil (all_asked (part_actions h)))
asked_is first (did a ps ∷ h) c = asked_is first h c.1 ∙ asked_behind first h a c.0.0
asked_is first (made_end ∷ h) c = asked_is first h c.1 ∙ ap (asked h) c.0.next
asked_is first (evened ∷ h) c = asked_is first h c.1 ∙ asked_by_next first h (Override normal_overrides) normal c.0.rests.next refl
asked_is first (paused ∷ h) c = asked_is first h c.1 ∙ ap (asked h) c.0.rests.next
asked_is first (cut k ∷ h) c = sym (asks_dropped (left_of first h))
asked_is first (halted ∷ h) c = asked_is first h c.1 ∙ ap (asked h) c.0.next
asked_is first (closing ∷ h) c = asked_is first h c.1 ∙ ap (asked h) c.0.free
asked_is first (_ ∷ h) c = asked_is first h c.1

without_last : (os : List Outcome) (o : Outcome) → but_last (os ++ o ∷ []) ≡ os
without_last os o =
    let l = length-append os (o ∷ []) in
    ap (λ (n : ℕ). take n (os ++ o ∷ [])) (let e : length (os ++ o ∷ []) - 1 ≡ length os = omega (arith, l) in e)
    ∙ take-append-le (length os) os (o ∷ []) (omega arith) ∙ take_all (length os) os (omega arith)

-- what all but the last of the lines since the last cut ask for was done
abbrev IsDoneBefore : Journal → Type 0
IsDoneBefore h = (more : List Asked) × (all_asked (part_actions h) ≡ asked_in (but_last (part_outcomes h)) ++ more)

done_more : (h : Journal) (actions : List Action) → IsDoneBefore h → (more : List Asked) × (all_asked (part_actions h ++ actions) ≡ asked_in (but_last (part_outcomes h)) ++ more)
done_more h actions done = (
  done.0 ++ all_asked actions,
  flat_map-append asked_by (part_actions h) actions ∙ ap (λ (xs : List Asked). xs ++ all_asked actions) done.1 ∙ append_assoc (asked_in (but_last (part_outcomes h))) done.0 (all_asked actions),
)

pub done_before : (first : Opening) (h : Journal) → Conducted first h → (more : List Asked) × (all_asked (part_actions h) ≡ asked_in (but_last (part_outcomes h)) ++ more)
done_before first [] c = ([], refl)
done_before first (began o ∷ h) c = (
  [],
  sym (append-nil (all_asked (part_actions h))) ∙ sym (asked_is first h c.1 ∙ ap (asked h) c.0.free)
      ∙ ap asked_in (sym (without_last (part_outcomes h) o)) ∙ sym (append-nil (asked_in (but_last (part_outcomes h ++ o ∷ [])))),
)
done_before first (did a ps ∷ h) c = done_more h (a ∷ []) (done_before first h c.1)
done_before first (evened ∷ h) c = done_more h (Override normal_overrides ∷ []) (done_before first h c.1)
done_before first (cut k ∷ h) c = ([], refl)
done_before first (_ ∷ h) c = done_before first h c.1

-- ---- the planner's run since the last cut

-- it begins where nothing is left to run, and goes on to the plan as it is, or as it was where the machine was halted
pub record IsOpenPart (blocks : ℕ) (h : Journal) : Type 0 where
  pub starts : IsStart (part_start h)
  pub run : Plans blocks (part_start h) (part_actions h) (part_given h) (part_plan h)

-- what an action gives of the plan it gives of that; where the machine was halted only overrides change
same_gives : (most : ℕ) (h : Journal) (a : Action) (ps : List Piece) → has_halted h ≡ false → Gives most a ps (plan_of h) → Gives most a ps (part_plan h)
same_gives most h a ps none gives = subst (λ (p : Planned). Gives most a ps p) (sym (part_plan_is h none)) gives

override_gives : (most : ℕ) (h : Journal) (a : Action) (ps : List Piece) → Gives most a ps (plan_of h) → (o : Overrides) × (a ≡ Override o) × (ps ≡ []) → Gives most a ps (part_plan h)
override_gives most h a ps gives (o, is, none) =
    let was : Gives most (Override o) [] (plan_of h) = subst (λ (b : Action). Gives most b [] (plan_of h)) is (subst (λ (qs : List Piece). Gives most a qs (plan_of h)) none gives) in
    subst (λ (qs : List Piece). Gives most a qs (part_plan h)) (sym none) (subst (λ (b : Action). Gives most b [] (part_plan h)) (sym is) (was.0, refl))

part_gives : (first : Opening) (h : Journal) (a : Action) (ps : List Piece) → MayDo first a h → Gives first.blocks a ps (plan_of h) → Stage first h → (was : Bool) → has_halted h ≡ was → Gives first.blocks a ps (part_plan h)
part_gives first h a ps may gives stage true was = override_gives first.blocks h a ps gives (only_override first h a ps may gives stage was)
part_gives first h a ps may gives stage false none = same_gives first.blocks h a ps none gives

unreset : (first : Opening) (h : Journal) → Conducted first h → NeverResets (part_actions h)
unreset first h c = keeps_on (part_actions h) (never_clears first h c)

pub open_part : (first : Opening) (h : Journal) → Conducted first h → IsOpenPart first.blocks h
open_part first [] c = record { starts = fresh_starts; run = refl }
open_part first (did a ps ∷ h) c =
    let p = open_part first h c.1 in
    record {
      starts = p.starts;
      run = goes_on first.blocks (part_start h) (part_plan h) (plan_after a ps (part_plan h)) (part_actions h) (a ∷ []) (part_given h) ps (unreset first h c.1) p.run
          (part_gives first h a ps c.0.0 c.0.1 (stage_is first h c.1) (has_halted h) refl);
    }
open_part first (evened ∷ h) c =
    let p = open_part first h c.1 in
    record {
      starts = p.starts;
      run = grows_by_override first.blocks (part_start h) (part_plan h) (part_actions h) (part_given h) normal_overrides (unreset first h c.1) p.run c.0.replans.0;
    }
open_part first (cut k ∷ h) c =
    let p = open_part first h c.1 in
    let same = calm_plan first h c.1 c.0.calm in
    record {
      starts = subst (λ (q : Planned). IsStart (cleared q)) same (clears_behind first.blocks (part_start h) (part_plan h) (part_actions h) (part_given h) p.starts p.run);
      run = refl;
    }
open_part first (_ ∷ h) c = let p = open_part first h c.1 in record { starts = p.starts; run = p.run }

-- the ticks that the lines since the last cut ask for were given, or are left in that plan, or to ask
pub part_ticks : (first : Opening) (h : Journal) → Conducted first h
    → ticks_of_all (asked_in (part_outcomes h)) ≡ flat_map ticks_of (part_given h) ++ (ticks_left (part_plan h) ++ ticks_of_all (asks (left_of first h)))
part_ticks first h c =
    let p = open_part first h c in
    let done : ticks_of_all (all_asked (part_actions h)) ≡ flat_map ticks_of (part_given h) ++ ticks_left (part_plan h) =
    ticks_from_start first.blocks (part_start h) (part_plan h) (part_actions h) (part_given h) p.starts (never_clears first h c) p.run in
    ap ticks_of_all (asked_is first h c)
    ∙ flat_map-append ticks_of_one (all_asked (part_actions h)) (asks (left_of first h))
    ∙ ap (λ (rs : List Record). rs ++ ticks_of_all (asks (left_of first h))) done
    ∙ append_assoc (flat_map ticks_of (part_given h)) (ticks_left (part_plan h)) (ticks_of_all (asks (left_of first h)))

-- where nothing is left to ask or to run, they were all given
pub last_part : (first : Opening) (h : Journal) → Conducted first h → asks (left_of first h) ≡ [] → (part_plan h).blocks ≡ [] → ticks_of_all (asked_in (part_outcomes h)) ≡ flat_map ticks_of (part_given h)
last_part first h c free empty =
    let given = flat_map ticks_of (part_given h) in
    part_ticks first h c
    ∙ ap (λ (asked : List Asked). given ++ (ticks_left (part_plan h) ++ ticks_of_all asked)) free
    ∙ ap (λ (bs : List Block). given ++ (flat_map ticks_left_in bs ++ [])) empty
    ∙ append-nil given
