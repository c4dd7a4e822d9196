-- The parts that cuts have ended: they hold all lines, actions and pieces, and their numbers rise.
use Rattle.std.proofs.Common.{◌≡◌, ℕ, ◌+◌, ◌<◌, ◌⊎◌, inl, inr, Bool, true, false, not, List, [], ◌∷◌, ◌++◌, length, map, drop, sym, refl, ap, ◌∙◌, arith, subst, append_assoc, append-nil, length-append}
use Rattle.std.specs.List.{AllByRecursion, flat_map}
use Rattle.std.proofs.lemmas.List.{map-append}
use Rattle.feed_hold.specs.declared.Motion.{Motion}
use Rattle.feed_hold.specs.declared.Motion.TheVariants as motions
use Rattle.feed_hold.specs.Motions.{Call}
use Rattle.feed_hold.specs.Motions.Call.{on_start}
use Rattle.feed_hold.proofs.Reaching.{StaysOrReaches, reached}
use Rattle.flight.specs.Places.{end_from}
use Rattle.line_geom.specs.declared.Block.{Block}
use Rattle.planner_runs.specs.declared.Action.{Action}
use Rattle.planner_runs.specs.declared.Action.TheVariants.{Add, Take, Override, Mark, Rest, Clear, Reset}
use Rattle.plan_rules.specs.Plans.{Planned}
use Rattle.planner_runs.specs.Runs.{Plans, normal_overrides, ticks_left}
use Rattle.planner_runs.proofs.Legal.{cut_heads_are_legal}
use Rattle.board_journal.specs.Openings.{Opening}
use Rattle.run_rules.specs.Outcomes.{Passed}
use Rattle.run_rules.specs.Outcomes.Passed.{a_line, a_cut}
use Rattle.run_rules.specs.Work.{Task, Outcome, asks}
use Rattle.run_rules.specs.Work.Task.{ask}
use Rattle.step_line.specs.Asking.{Asked, ticks_of_all}
use Rattle.step_line.specs.Pieces.{ticks_of}
use Rattle.step_line.specs.Asking.Asked.{a_move, a_mark, a_rest}
use Rattle.step_line.specs.declared.Mark.TheVariants as marks
use Rattle.step_line.specs.declared.Piece.{Piece}
use Rattle.step_line.specs.declared.Piece.TheVariants as pieces
use Rattle.units.specs.declared.Steps3.{Steps3}
use Rattle.board_journal.specs.Ports.PortStep.{answered}
use Rattle.board_journal.specs.Steps.{Journal, outcomes_of, actions_of, planned_of, given_of, plan_of, motion_of, left_of, plan_after}
use Rattle.board_journal.specs.Steps.Step.{at_port, began, did, made_end, evened, paused, became, cut, halted, closing}
use Rattle.board_rules.specs.Parts.{IsCutPart, lines_in, actions_in, pieces_in, passed_in, last_number, AreNumbered, plan_behind, AreJoined}
use Rattle.board_rules.specs.Cuts.{part_outcomes, part_actions, part_given, part_start, has_halted, parts_of, passed_of, has_cut}
use Rattle.board_rules.specs.Turns.{has_blocks, stands_still}
use Rattle.board_rules.specs.Conduct.{Conducted, MayDo, MayHappen, Gives}
use Rattle.board_rules.proofs.DroppedJogs.{drops_last}
use Rattle.board_rules.proofs.Opening.{asks_telling, opens_still}
use Rattle.board_rules.proofs.Alarms.{calm_plan}
use Rattle.board_rules.proofs.Closing.{one_end}
use Rattle.board_rules.proofs.Dropping.{asks_dropped, asks_behind}
use Rattle.board_rules.proofs.Jogging.{cancel_is_jog}
use Rattle.board_rules.proofs.Keeping.{never_clears}
use Rattle.board_rules.proofs.Losing.{jogs_alone}
use Rattle.board_rules.proofs.Parting.{asked_is, open_part, part_ticks}
use Rattle.board_rules.proofs.Tasks.{none_taken}
use Rattle.flight.proofs.Places.{end_on_from}

-- ---- a jog that runs is of a line that was begun since the last cut

-- no line was begun since the cut: then nothing is left to run
record IsUnbegun (first : Opening) (h : Journal) : Type 0 where
  blocks : (plan_of h).blocks ≡ []
  asks : asks (left_of first h) ≡ []

not_empty : (os : List Outcome) (o : Outcome) → os ++ o ∷ [] ≡ [] → ⊥
not_empty [] o e = absurd cc
not_empty (p ∷ os) o e = absurd cc

no_ask : {A : Type 0} (ts : List Task) (a : Asked) → ts ≡ ask a ∷ drop 1 ts → asks ts ≡ [] → A
no_ask ts a next none = absurd (let f = sym (ap (λ (ts : List Task). asks ts) next) ∙ none in cc)

unbegun_did : (first : Opening) (h : Journal) (a : Action) (ps : List Piece) → MayDo first a h → Gives first.blocks a ps (plan_of h) → IsUnbegun first h → IsUnbegun first (did a ps ∷ h)
unbegun_did first h (Add m) ps may run u = no_ask (left_of first h) (a_move m) may u.asks
unbegun_did first h (Mark m) ps may run u = no_ask (left_of first h) (a_mark m) may.next u.asks
unbegun_did first h Rest ps may run u = no_ask (left_of first h) a_rest may.next u.asks
unbegun_did first h (Take mode) ps may run u = absurd (none_taken first.blocks (plan_of h) mode ps (plan_after (Take mode) ps (plan_of h)) u.blocks run)
unbegun_did first h (Override o) ps may run u = record { blocks = u.blocks; asks = u.asks }
unbegun_did first h Clear ps may run u = absurd may
unbegun_did first h Reset ps may run u = absurd may

unbegun : (first : Opening) (h : Journal) → Conducted first h → part_outcomes h ≡ [] → IsUnbegun first h
unbegun first [] c e = record { blocks = refl; asks = asks_telling first.tells }
unbegun first (at_port (answered r) ∷ h) c e = let u = unbegun first h c.1 e in record { blocks = u.blocks; asks = asks_behind (left_of first h) u.asks }
unbegun first (began o ∷ h) c e = absurd (not_empty (part_outcomes h) o e)
unbegun first (did a ps ∷ h) c e = unbegun_did first h a ps c.0.0 c.0.1 (unbegun first h c.1 e)
unbegun first (made_end ∷ h) c e = let u = unbegun first h c.1 e in record { blocks = u.blocks; asks = asks_behind (left_of first h) u.asks }
unbegun first (evened ∷ h) c e = let u = unbegun first h c.1 e in record { blocks = u.blocks; asks = asks_behind (left_of first h) u.asks }
unbegun first (paused ∷ h) c e = let u = unbegun first h c.1 e in record { blocks = u.blocks; asks = asks_behind (left_of first h) u.asks }
unbegun first (cut k ∷ h) c e = record { blocks = refl; asks = asks_dropped (left_of first h) }
unbegun first (halted ∷ h) c e = let u = unbegun first h c.1 e in record { blocks = refl; asks = asks_behind (left_of first h) u.asks }
unbegun first (closing ∷ h) c e = let u = unbegun first h c.1 e in record { blocks = u.blocks; asks = refl }
unbegun first (_ ∷ h) c e = let u = unbegun first h c.1 e in record { blocks = u.blocks; asks = u.asks }

-- a jog runs, or is cancelled and not cut yet
abbrev is_uncut : Motion → Bool → Bool
is_uncut motions.Jog cut_is = true
is_uncut motions.Cancelling cut_is = not cut_is
is_uncut m cut_is = false

abbrev Uncut : Opening → Journal → Type 0
Uncut first h = is_uncut (motion_of first h) (has_cut h) ≡ true

no_queue : {A : Type 0} (bs : List Block) → bs ≡ [] → has_blocks bs ≡ true → A
no_queue bs none some = absurd (let e = sym some ∙ ap has_blocks none in cc)

uncut_before : (first : Opening) (h : Journal) (m : Motion) → m ≡ motion_of first h → is_uncut m (has_cut h) ≡ true → Uncut first h
uncut_before first h m same uncut = subst (λ (n : Motion). is_uncut n (has_cut h) ≡ true) same uncut

began_jog : (first : Opening) (h : Journal) (call : Call) (m : Motion) → Conducted first h → MayHappen first call h → StaysOrReaches m call (motion_of first h) → is_uncut m (has_cut (became call m ∷ h)) ≡ true
    → (Uncut first h → part_outcomes h ≡ [] → ⊥) → part_outcomes h ≡ [] → ⊥
began_jog first h call motions.Jog c may (inl same) uncut was none = was (uncut_before first h motions.Jog same refl) none
began_jog first h call motions.Jog c may (inr (jog, is)) uncut was none =
    let begins : MayHappen first (on_start true) h = subst (λ (x : Call). MayHappen first x h) is may in no_queue (plan_of h).blocks (unbegun first h c none).blocks begins.blocks
began_jog first h call motions.Cancelling c may (inl same) uncut was none = was (uncut_before first h motions.Cancelling same uncut) none
began_jog first h call motions.Cancelling c may (inr (jog, by)) uncut was none = was (ap (λ (n : Motion). is_uncut n (has_cut h)) jog) none
began_jog first h call _ c may how uncut was none = absurd cc

cut_once : (m : Motion) → m ≡ motions.Cancelling → is_uncut m true ≡ true → ⊥
cut_once m is uncut = absurd (let e = sym (ap (λ (n : Motion). is_uncut n true) is) ∙ uncut in cc)

uncut_moves : (m : Motion) → is_uncut m false ≡ true → stands_still m ≡ false
uncut_moves motions.Jog uncut = refl
uncut_moves motions.Cancelling uncut = refl
uncut_moves m uncut = absurd cc

is_begun : (first : Opening) (h : Journal) → Conducted first h → Uncut first h → part_outcomes h ≡ [] → ⊥
is_begun first [] c uncut none = opens_still first first.motion c refl (uncut_moves first.motion uncut)
is_begun first (began o ∷ h) c uncut none = absurd (not_empty (part_outcomes h) o none)
is_begun first (paused ∷ h) c uncut none = absurd cc
is_begun first (became call m ∷ h) c uncut none = began_jog first h call m c.1 c.0.1 (reached call (motion_of first h) m c.0.0) uncut (is_begun first h c.1) none
is_begun first (cut k ∷ h) c uncut none = cut_once (motion_of first h) c.0.cancelled uncut
is_begun first (_ ∷ h) c uncut none = is_begun first h c.1 uncut none

-- ---- all lines, actions and pieces stand in the parts

pub lines_are : (first : Opening) (h : Journal) → Conducted first h → outcomes_of h ≡ lines_in (parts_of first h) ++ part_outcomes h
lines_are first [] c = refl
lines_are first (began o ∷ h) c = ap (λ (os : List Outcome). os ++ o ∷ []) (lines_are first h c.1) ∙ append_assoc (lines_in (parts_of first h)) (part_outcomes h) (o ∷ [])
lines_are first (cut k ∷ h) c = lines_are first h c.1 ∙ sym (append-nil (lines_in (parts_of first h) ++ part_outcomes h))
lines_are first (_ ∷ h) c = lines_are first h c.1

more_behind : {A : Type 0} (all closed part more : List A) → all ≡ closed ++ part → all ++ more ≡ closed ++ (part ++ more)
more_behind {A} all closed part more is = ap (λ (xs : List A). xs ++ more) is ∙ append_assoc closed part more

-- until the machine is halted
pub actions_are : (first : Opening) (h : Journal) → has_halted h ≡ false → actions_of h ≡ actions_in (parts_of first h) ++ part_actions h
actions_are first [] none = refl
actions_are first (did a ps ∷ h) none = more_behind (actions_of h) (actions_in (parts_of first h)) (part_actions h) (a ∷ []) (actions_are first h none)
actions_are first (evened ∷ h) none = more_behind (actions_of h) (actions_in (parts_of first h)) (part_actions h) (Override normal_overrides ∷ []) (actions_are first h none)
actions_are first (halted ∷ h) none = absurd cc
actions_are first (cut k ∷ h) none =
    more_behind (actions_of h) (actions_in (parts_of first h)) (part_actions h) (Clear ∷ Mark (marks.Cut k) ∷ []) (actions_are first h none)
    ∙ sym (append-nil (actions_in (parts_of first h) ++ (part_actions h ++ Clear ∷ Mark (marks.Cut k) ∷ [])))
actions_are first (_ ∷ h) none = actions_are first h none

pub pieces_are : (first : Opening) (h : Journal) → Conducted first h → planned_of h ≡ pieces_in (parts_of first h) ++ part_given h
pieces_are first [] c = refl
pieces_are first (did a ps ∷ h) c = more_behind (planned_of h) (pieces_in (parts_of first h)) (part_given h) ps (pieces_are first h c.1)
pieces_are first (cut k ∷ h) c =
    more_behind (planned_of h) (pieces_in (parts_of first h)) (part_given h) (pieces.Mark (marks.Cut k) ∷ []) (pieces_are first h c.1)
    ∙ sym (append-nil (pieces_in (parts_of first h) ++ (part_given h ++ pieces.Mark (marks.Cut k) ∷ [])))
pieces_are first (_ ∷ h) c = pieces_are first h c.1

-- the end leads no further
end_by : (place : Steps3) (h : Journal) → (given_of h ≡ planned_of h) ⊎ (given_of h ≡ planned_of h ++ pieces.End ∷ []) → end_from place (given_of h) ≡ end_from place (planned_of h)
end_by place h (inl is) = ap (end_from place) is
end_by place h (inr is) = ap (end_from place) is ∙ end_on_from place (planned_of h) pieces.End

given_end : (first : Opening) (h : Journal) → Conducted first h → end_from first.place (given_of h) ≡ end_from first.place (pieces_in (parts_of first h) ++ part_given h)
given_end first h c = end_by first.place h (one_end first h c) ∙ ap (end_from first.place) (pieces_are first h c)

-- the lines and the cuts that were passed, part by part
pub passed_are : (first : Opening) (h : Journal) → Conducted first h → passed_of first h ≡ passed_in first.place (parts_of first h) ++ map a_line (part_outcomes h)
passed_are first [] c = refl
passed_are first (began o ∷ h) c =
    more_behind (passed_of first h) (passed_in first.place (parts_of first h)) (map a_line (part_outcomes h)) (a_line o ∷ []) (passed_are first h c.1)
    ∙ ap (λ (xs : List Passed). passed_in first.place (parts_of first h) ++ xs) (sym (map-append a_line (part_outcomes h) (o ∷ [])))
passed_are first (cut k ∷ h) c =
    more_behind (passed_of first h) (passed_in first.place (parts_of first h)) (map a_line (part_outcomes h)) (a_cut k (end_from first.place (given_of h)) ∷ []) (passed_are first h c.1)
    ∙ ap (λ at. passed_in first.place (parts_of first h) ++ (map a_line (part_outcomes h) ++ a_cut k at ∷ [])) (given_end first h c.1)
    ∙ sym (append-nil _)
passed_are first (_ ∷ h) c = passed_are first h c.1

-- ---- the numbers

pub count_is : (first : Opening) (h : Journal) → Conducted first h → first.lines + length (outcomes_of h) ≡ last_number first.lines (parts_of first h) + length (part_outcomes h)
count_is first [] c = refl
count_is first (began o ∷ h) c =
    let e = count_is first h c.1 in
    let a = length-append (outcomes_of h) (o ∷ []) in
    let b = length-append (part_outcomes h) (o ∷ []) in
    omega (arith, e, a, b)
count_is first (cut k ∷ h) c = let n = c.0.number in omega (arith, n)
count_is first (_ ∷ h) c = count_is first h c.1

some_lines : (os : List Outcome) → (os ≡ [] → ⊥) → 0 < length os
some_lines [] other = absurd (other refl)
some_lines (o ∷ os) other = omega arith

-- a line was begun since the last cut where another is made
pub cut_has_lines : (first : Opening) (h : Journal) (k : ℕ) → Conducted first (cut k ∷ h) → 0 < length (part_outcomes h)
cut_has_lines first h k c =
    let uncut : Uncut first h = ap (λ (m : Motion). is_uncut m (has_cut h)) c.0.cancelled ∙ ap not c.0.uncut in
    some_lines (part_outcomes h) (is_begun first h c.1 uncut)

pub numbers_are : (first : Opening) (h : Journal) → Conducted first h → AreNumbered first.lines (parts_of first h)
numbers_are first [] c = tt
numbers_are first (cut k ∷ h) c =
    let n = c.0.number in
    let e = count_is first h c.1 in
    let some = cut_has_lines first h k c in
    (n ∙ ap (λ (os : List Outcome). first.lines + length os) (lines_are first h c.1), omega (arith, n, e, some), numbers_are first h c.1)
numbers_are first (_ ∷ h) c = numbers_are first h c.1

-- ---- each part

-- what was done since the last cut began with the plan that this has cleared
pub starts_are : (first : Opening) (h : Journal) → part_start h ≡ plan_behind (parts_of first h)
starts_are first [] = refl
starts_are first (cut k ∷ h) = refl
starts_are first (_ ∷ h) = starts_are first h

pub joined_are : (first : Opening) (h : Journal) → AreJoined (parts_of first h)
joined_are first [] = tt
joined_are first (cut k ∷ h) = (starts_are first h, joined_are first h)
joined_are first (_ ∷ h) = joined_are first h

pub parts_are : (first : Opening) (h : Journal) → Conducted first h → AllByRecursion (λ p. IsCutPart first.blocks p) (parts_of first h)
parts_are first [] c = tt
parts_are first (cut k ∷ h) c =
    let p = open_part first h c.1 in
    let same = calm_plan first h c.1 c.0.calm in
    let run = subst (λ (q : Planned). Plans first.blocks (part_start h) (part_actions h) (part_given h) q) same p.run in
    let still = c.0.stopped.slowed.speed in (
      record {
        starts = p.starts;
        run = run;
        stops = still;
        heads = cut_heads_are_legal first.blocks (part_start h) (plan_of h) (part_actions h) (part_given h) k p.starts (never_clears first h c.1) run still;
        asks = asked_is first h c.1;
        last = drops_last first h c.1 (cancel_is_jog first h c.1 c.0.cancelled);
        ticks = part_ticks first h c.1 ∙ ap (λ (q : Planned). flat_map ticks_of (part_given h) ++ (ticks_left q ++ ticks_of_all (asks (left_of first h)))) same;
        jogs = jogs_alone first h c.1 (cancel_is_jog first h c.1 c.0.cancelled);
      },
      parts_are first h c.1,
    )
parts_are first (_ ∷ h) c = parts_are first h c.1
