-- A line that is refused because the machine runs or jogs is begun where it does.
use Rattle.std.proofs.Common.{◌≡◌, ◌≢◌, ℕ, ◌≤◌, ◌<◌, ◌⊎◌, inl, inr, List, [], ◌∷◌, ◌++◌, Bool, true, false, nat_lt, refl, sym, ap, ◌∙◌, append-nil, arith, subst}
use Rattle.std.proofs.lemmas.Bool.Decides.{nat_tests}
use Rattle.feed_hold.specs.declared.Motion.{Motion}
use Rattle.feed_hold.specs.declared.Motion.TheVariants.{Run, Jog, Alarm}
use Rattle.line_geom.specs.declared.Block.{Block}
use Rattle.planner_runs.specs.Runs.{fresh_plan}
use Rattle.planner_runs.proofs.Runs.{fresh_starts, rests_behind}
use Rattle.step_line.specs.declared.Piece.{Piece}
use Rattle.step_line.specs.Finishing.{ticks_together}
use Rattle.board_journal.specs.Openings.{Opening}
use Rattle.run_rules.specs.Work.{Outcome}
use Rattle.run_rules.specs.Outcomes.{Before}
use Rattle.run_rules.specs.Locking.{BecomesIn}
use Rattle.run_rules.specs.Finding.{Found, is_locked as is_locked_machine}
use Rattle.run_rules.proofs.Finding.{becomes_still, becomes_locked}
use Rattle.board_rules.proofs.Locking.{finds_locked}
use Rattle.board_journal.specs.Steps.{Journal, before_of, open_of, known_of, given_of, published_of, planned_of, actions_of, hand_of, plan_of, motion_of}
use Rattle.board_journal.specs.Steps.Step.{began}
use Rattle.board_rules.specs.Turns.{has_blocks, machine_in, is_going, is_locked}
use Rattle.board_rules.specs.Conduct.{Conducted, IsDrained, ticks_published}
use Rattle.board_rules.specs.Whole.{IsFoundMoving}
use Rattle.board_rules.proofs.Given.{known_within}
use Rattle.board_rules.proofs.Keeping.{run_is, hand_is}

-- a line becomes what it would not if the machine stood
it_goes : (m : Motion) (b : Before) (kept : List ℕ) (o : Outcome) → Found (machine_in m) b kept o → (BecomesIn (is_locked_machine (machine_in m)) false b kept o → ⊥) → is_going m ≡ true
it_goes Run b kept o found other = refl
it_goes Jog b kept o found other = refl
it_goes Alarm b kept o found other = absurd (other (becomes_locked b kept o found))
it_goes _ b kept o found other = absurd (other (becomes_still b kept o found))

no_blocks : (blocks : List Block) → has_blocks blocks ≡ false → blocks ≡ []
no_blocks [] none = refl
no_blocks (b ∷ blocks) none = absurd cc

drained : (first : Opening) (h : Journal) → Conducted first h → (plan_of h).blocks ≡ [] → hand_of h ≡ [] → ticks_published h ≤ known_of h → IsDrained h
drained first h c none empty done =
    let same : given_of h ≡ published_of h = hand_is first h c ∙ ap (λ (ps : List Piece). published_of h ++ ps) empty ∙ append-nil (published_of h) in
    let all = ap ticks_together same in
    let low = known_within first h c in
    record {
      plan = (rests_behind first.blocks fresh_plan (plan_of h) (actions_of h) (planned_of h) fresh_starts (run_is first h c) none).rest;
      hand = empty;
      done = omega (arith, all, low, done);
    }

-- what is left where it is not drained
what_is_left : (first : Opening) (h : Journal) → Conducted first h → (IsDrained h → ⊥)
    → (known_of h < ticks_published h) ⊎ ((has_blocks (plan_of h).blocks ≡ true) ⊎ (hand_of h ≢ []))
what_is_left first h c undrained = by_parts (nat_lt (known_of h) (ticks_published h)) (has_blocks (plan_of h).blocks) (hand_of h) refl refl refl
  where
    by_parts : (fewer some : Bool) (ps : List Piece) → nat_lt (known_of h) (ticks_published h) ≡ fewer → has_blocks (plan_of h).blocks ≡ some → hand_of h ≡ ps
        → (known_of h < ticks_published h) ⊎ ((has_blocks (plan_of h).blocks ≡ true) ⊎ (hand_of h ≢ []))
    by_parts true some ps e f g = inl (grind (arith, nat_tests))
    by_parts false true ps e f g = inr (inl f)
    by_parts false false (p ∷ ps) e f g = inr (inr (λ none. absurd (let same = sym g ∙ none in cc)))
    by_parts false false [] e f g = absurd (undrained (drained first h c (no_blocks (plan_of h).blocks f) g (grind (arith, nat_tests))))

pub found_moving : (first : Opening) (h : Journal) (o : Outcome) → Conducted first (began o ∷ h) → (BecomesIn (is_locked first h) false (before_of first h) (open_of h) o → ⊥) → IsFoundMoving first h
found_moving first h o c other =
    let goes = it_goes (motion_of first h) (before_of first h) (open_of h) o c.0.becomes (λ here. other (subst (λ (t : Bool). BecomesIn t false (before_of first h) (open_of h) o) (finds_locked first h o c) here)) in
    record {
      goes = goes;
      loaded = c.0.load;
      left = what_is_left first h c.1 (λ drained. absurd (let e = sym goes ∙ c.0.idle drained in cc));
    }
