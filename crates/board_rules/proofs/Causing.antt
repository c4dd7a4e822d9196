-- The lines before caused the motion: a run is of G-code that moves, and a jog of a jog.
use Rattle.std.proofs.Common.{◌≡◌, inl, inr, Bool, true, false, cond, ◌&&◌, ◌||◌, List, [], ◌∷◌, refl, sym, ap, ◌∙◌, subst}
use Rattle.std.specs.List.{list_any}
use Rattle.feed_hold.specs.declared.Motion.{Motion}
use Rattle.feed_hold.specs.declared.Motion.TheVariants as motions
use Rattle.line_geom.specs.declared.Block.{Block}
use Rattle.board_journal.specs.Openings.{Opening}
use Rattle.run_rules.specs.declared.machine.Machine.TheVariants.{Runs, Jogs, Locked}
use Rattle.run_rules.specs.Work.{Outcome, Kind, accepted_code, has_moves, asks}
use Rattle.run_rules.specs.Work.Kind.{of_none}
use Rattle.run_rules.specs.Work.Task.{tell, pause, normal, halt}
use Rattle.run_rules.specs.Outcomes.{jogged_behind}
use Rattle.run_rules.specs.Locking.{BecomesIn}
use Rattle.run_rules.specs.Finding.{Fate, Fate as fates}
use Rattle.run_rules.proofs.Finding.{IsCaused, found_becomes}
use Rattle.board_journal.specs.Ports.PortStep.{answered}
use Rattle.board_journal.specs.Steps.{Journal, plan_of, motion_of, left_of, open_of, before_of, closed_tells}
use Rattle.board_journal.specs.Steps.Step.{at_port, began, did, made_end, evened, paused, became, cut, halted, closing, turned}
use Rattle.board_rules.specs.Turns.{this_turn, found_none, is_full, awaits_motion, has_blocks, has_jogged, machine_in, begins_in, is_going, is_locked, starts_cycle}
use Rattle.board_rules.specs.Conduct.{Conducted}
use Rattle.board_rules.specs.Whole.{comes_to_rest}
use Rattle.board_rules.proofs.Tasks.{none_closed}
use Rattle.board_rules.proofs.Beginning.{fate_now, jogged_is}
use Rattle.board_rules.proofs.Locking.{begins_unless, finds_locked}
use Rattle.board_rules.proofs.Dropping.{none_moves}
use Rattle.board_rules.proofs.Jogging.{run_is_code, jog_is_last, cancel_is_jog}
use Rattle.board_rules.proofs.Quieting.{has_moved}
use Rattle.board_rules.proofs.Standing.{stands, Rested, calm_on, rest_later, rest_behind, rested_did, rested_began, opens_calm}
use Rattle.board_rules.proofs.Truths.{neither_left, neither_right}

-- ---- queued blocks of a jog start before a line is begun

-- a jog starts at once
pub jog_starts : (first : Opening) (h : Journal) → has_jogged h ≡ true → starts_cycle first h ≡ false → ⊥
jog_starts first h is none =
    let a = neither_right (list_any found_none (this_turn h)) (is_full first.blocks (plan_of h) || (awaits_motion (left_of first h) || has_jogged h)) none in
    let b = neither_right (is_full first.blocks (plan_of h)) (awaits_motion (left_of first h) || has_jogged h) a in
    let d = neither_right (awaits_motion (left_of first h)) (has_jogged h) b in
    absurd (let e = sym is ∙ d in cc)

no_blocks : (bs : List Block) → (has_blocks bs ≡ true → ⊥) → bs ≡ []
no_blocks [] none = refl
no_blocks (b ∷ bs) none = absurd (none refl)

none_queued : (first : Opening) (h : Journal) (o : Outcome) → Conducted first (began o ∷ h) → motion_of first h ≡ motions.Idle → has_jogged h ≡ true → (plan_of h).blocks ≡ []
none_queued first h o c idle is = no_blocks (plan_of h).blocks (λ some. (jog_starts first) h is (neither_left (starts_cycle first h) _ (c.0.starts (record { stands = idle; blocks = some }))))

-- ---- where the last accepted is no jog, and no line of G-code has moved

-- a line of G-code behind a jog is begun where the machine stands
stands_there : (first : Opening) (h : Journal) (o : Outcome) → Conducted first (began o ∷ h) → has_jogged h ≡ true → (m : Motion) → motion_of first h ≡ m → begins_in m ≡ true → (machine_in m ≡ Jogs → ⊥)
    → motion_of first h ≡ motions.Idle
stands_there first h o c is motions.Idle e begins other = e
stands_there first h o c is motions.Run e begins other = absurd (let f = sym (run_is_code first h c.1 e) ∙ is in cc)
stands_there first h o c is motions.Jog e begins other = absurd (other refl)
stands_there first h o c is _ e begins other = absurd cc

code_behind_jog : (first : Opening) (h : Journal) (o : Outcome) → Conducted first (began o ∷ h) → has_jogged h ≡ true → (machine_in (motion_of first h) ≡ Jogs → ⊥) × (machine_in (motion_of first h) ≡ Locked → ⊥) → has_moves o.work ≡ false → Rested first (began o ∷ h)
code_behind_jog first h o c is other none =
    let idle = stands_there first h o c is (motion_of first h) refl (begins_unless first h o c other.1) other.0 in
    inr (record { blocks = none_queued first h o c idle is; still = ap stands idle; moves = none })

code_begun : (first : Opening) (h : Journal) (o : Outcome) → Conducted first (began o ∷ h) → (other : (machine_in (motion_of first h) ≡ Jogs → ⊥) × (machine_in (motion_of first h) ≡ Locked → ⊥)) → (j s m : Bool) → has_jogged h ≡ j → o.settles ≡ s → has_moves o.work ≡ m
    → cond s false (m || (before_of first h).moved) ≡ false → (has_jogged h ≡ false → (before_of first h).moved ≡ false → Rested first h) → Rested first (began o ∷ h)
code_begun first h o c other false s m jogs settles moves still rested =
    rested_began first h o c (before_of first h).moved s m settles moves still (λ before. rested jogs before)
code_begun first h o c other true true m jogs settles moves still rested = rested_began first h o c true true m settles moves refl (λ e. absurd cc)
code_begun first h o c other true false true jogs settles moves still rested = absurd cc
code_begun first h o c other true false false jogs settles moves still rested = code_behind_jog first h o c jogs other moves

-- a line of neither kind leaves what was, and moves nothing
asks_nothing : (first : Opening) (h : Journal) (o : Outcome) → Conducted first (began o ∷ h) → o.kind ≡ of_none → o.settles ≡ false → asks o.work ≡ []
    → jogged_behind o.kind (has_jogged h) ≡ false → cond o.settles false (accepted_code o.kind && has_moves o.work || (before_of first h).moved) ≡ false
    → (has_jogged h ≡ false → (before_of first h).moved ≡ false → Rested first h) → Rested first (began o ∷ h)
asks_nothing first h o c kind settles none jogs still rested =
    let was : has_jogged h ≡ false = sym (ap (λ (k : Kind). jogged_behind k (has_jogged h)) kind) ∙ jogs in
    let before : (before_of first h).moved ≡ false =
    sym (ap (λ (s : Bool). cond s false (accepted_code o.kind && has_moves o.work || (before_of first h).moved)) settles
    ∙ ap (λ (k : Kind). accepted_code k && has_moves o.work || (before_of first h).moved) kind) ∙ still in
    rested_began first h o c (before_of first h).moved false false settles (none_moves o.work none) before (λ e. rested was e)

line_begun : (first : Opening) (h : Journal) (o : Outcome) → Conducted first (began o ∷ h) → Fate (machine_in (motion_of first h)) (open_of h) o
    → jogged_behind o.kind (has_jogged h) ≡ false → cond o.settles false (accepted_code o.kind && has_moves o.work || (before_of first h).moved) ≡ false
    → (has_jogged h ≡ false → (before_of first h).moved ≡ false → Rested first h) → Rested first (began o ∷ h)
line_begun first h o c (fates.coded kind other) jogs still rested =
    code_begun first h o c other (has_jogged h) o.settles (has_moves o.work) refl refl refl
    (sym (ap (λ (k : Kind). cond o.settles false (accepted_code k && has_moves o.work || (before_of first h).moved)) kind) ∙ still) rested
line_begun first h o c (fates.a_jog kind other dollar settles work) jogs still rested =
    absurd (let e = sym (ap (λ (k : Kind). jogged_behind k (has_jogged h)) kind) ∙ jogs in cc)
line_begun first h o c (fates.halted kind other settles work) jogs still rested = asks_nothing first h o c kind settles (ap asks work) jogs still rested
line_begun first h o c (fates.neither kind settles none) jogs still rested = asks_nothing first h o c kind settles none jogs still rested

code_rests : (first : Opening) (h : Journal) → Conducted first h → closed_tells h ≡ [] → has_jogged h ≡ false → (before_of first h).moved ≡ false → Rested first h
code_rests first [] c going jogs still = inr (opens_calm first c)
code_rests first (at_port (answered r) ∷ h) c going jogs still =
    rest_behind first h (at_port (answered r)) (tell r) c.0.next refl refl (calm_on first (at_port (answered r)) h c tt) (code_rests first h c.1 going jogs still)
code_rests first (at_port e ∷ h) c going jogs still = rest_later first h (at_port e) refl (calm_on first (at_port e) h c tt) (code_rests first h c.1 going jogs still)
code_rests first (began o ∷ h) c going jogs still = line_begun first h o c (fate_now first h o c.0) jogs still (code_rests first h c.1 going)
code_rests first (did a ps ∷ h) c going jogs still = rested_did first h a ps c.0.0 (calm_on first (did a ps) h c tt) (code_rests first h c.1 going jogs still)
code_rests first (made_end ∷ h) c going jogs still = absurd (c.0.closes going)
code_rests first (evened ∷ h) c going jogs still = rest_behind first h evened normal c.0.rests.next refl refl (calm_on first evened h c tt) (code_rests first h c.1 going jogs still)
code_rests first (paused ∷ h) c going jogs still = rest_behind first h paused pause c.0.rests.next refl refl (calm_on first paused h c tt) (code_rests first h c.1 going jogs still)
code_rests first (became call m ∷ h) c going jogs still = rest_later first h (became call m) refl (calm_on first (became call m) h c tt) (code_rests first h c.1 going jogs still)
code_rests first (cut k ∷ h) c going jogs still = absurd (let e = sym (cancel_is_jog first h c.1 c.0.cancelled) ∙ jogs in cc)
code_rests first (halted ∷ h) c going jogs still = rest_behind first h halted halt c.0.next refl refl (calm_on first halted h c tt) (code_rests first h c.1 going jogs still)
code_rests first (closing ∷ h) c going jogs still = absurd (none_closed (closed_tells h) going)
code_rests first (turned t ∷ h) c going jogs still = rest_later first h (turned t) refl (calm_on first (turned t) h c tt) (code_rests first h c.1 going jogs still)

-- ---- the causes

is_true : (b : Bool) → (b ≡ false → ⊥) → b ≡ true
is_true true other = refl
is_true false other = absurd (other refl)

runs_in : (m : Motion) → machine_in m ≡ Runs → m ≡ motions.Run
runs_in motions.Run is = refl
runs_in _ is = absurd cc

jogs_in : (m : Motion) → machine_in m ≡ Jogs → m ≡ motions.Jog
jogs_in motions.Jog is = refl
jogs_in _ is = absurd cc

-- a run with nothing left to do is no rest
no_rest : (first : Opening) (h : Journal) → left_of first h ≡ [] → motion_of first h ≡ motions.Run → Rested first h → ⊥
no_rest first h free runs (inl will) = absurd (let e = sym (ap comes_to_rest free) ∙ will in cc)
no_rest first h free runs (inr calm) = absurd (let e = sym (ap stands runs) ∙ calm.still in cc)

pub caused_is : (first : Opening) (h : Journal) (o : Outcome) → Conducted first (began o ∷ h) → IsCaused (machine_in (motion_of first h)) (before_of first h)
caused_is first h o c = record {
  moved = λ e. is_true (before_of first h).moved (λ none.
      let runs = runs_in (motion_of first h) e in no_rest first h c.0.free runs (code_rests first h c.1 c.0.going (run_is_code first h c.1 runs) none));
  unjogged = λ e. jogged_is first h ∙ run_is_code first h c.1 (runs_in (motion_of first h) e);
  jogged = λ e. jogged_is first h ∙ jog_is_last first h c.1 (jogs_in (motion_of first h) e);
  some = λ e. has_moved first h c.1 c.0.going c.0.free (λ drained. absurd (let goes = sym (ap is_going (jogs_in (motion_of first h) e)) ∙ c.0.idle drained in cc));
}

pub becomes_now : (first : Opening) (h : Journal) (o : Outcome) → Conducted first (began o ∷ h) → BecomesIn (is_locked first h) true (before_of first h) (open_of h) o
becomes_now first h o c =
    subst (λ (t : Bool). BecomesIn t true (before_of first h) (open_of h) o) (finds_locked first h o c)
    (found_becomes (machine_in (motion_of first h)) (before_of first h) (open_of h) o (caused_is first h o c) c.0.becomes)
