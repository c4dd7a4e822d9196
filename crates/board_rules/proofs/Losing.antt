-- Which first ticks of some lines leave out ticks of jogs alone; and that where the last that was accepted is a jog, all that was
-- not given since the last cut is of jogs.
use Rattle.std.proofs.Common.{◌≡◌, ℕ, ◌+◌, ◌-◌, ◌≤◌, ◌⊎◌, inl, inr, List, [], ◌∷◌, ◌++◌, length, true, false, Bool, ◌&&◌, ◌||◌, sym, refl, ap, ◌∙◌, arith, append-nil, length-append}
use Rattle.std.specs.List.{flat_map}
use Rattle.std.proofs.lemmas.Grind.{flat_map-append}
use Rattle.feed_hold.specs.declared.Motion.{Motion}
use Rattle.feed_hold.specs.declared.Motion.TheVariants as motions
use Rattle.plan_rules.specs.Plans.{Planned}
use Rattle.line_geom.specs.declared.Block.{Block}
use Rattle.planner_runs.specs.Runs.{ticks_left_in, ticks_left}
use Rattle.board_journal.specs.Openings.{Opening}
use Rattle.run_rules.specs.declared.machine.Machine.TheVariants.{Runs}
use Rattle.run_rules.specs.Cuts.{ticks_for, ticks_asked_for, LosesJogsAlone}
use Rattle.run_rules.specs.Finding.{Fate}
use Rattle.run_rules.specs.Finding.{Fate as fates}
use Rattle.run_rules.specs.Outcomes.{jogged_behind, begins_with_dollar}
use Rattle.run_rules.specs.Told.{asked_in}
use Rattle.run_rules.specs.Work.{Task, Outcome, Kind, asks, accepted_jog}
use Rattle.step_line.specs.declared.Piece.{Piece}
use Rattle.step_line.specs.declared.Record.{Record}
use Rattle.step_line.specs.Asking.{Asked, ticks_of_one, ticks_of_all}
use Rattle.step_line.specs.Finishing.{ticks_together}
use Rattle.step_line.specs.Pieces.{ticks_of}
use Rattle.step_line.proofs.Finished.{together_both}
use Rattle.board_journal.specs.Steps.{Journal, plan_of, motion_of, left_of, open_of, whole_of}
use Rattle.board_journal.specs.Steps.Step.{began, did, cut}
use Rattle.board_rules.specs.Cuts.{part_outcomes, part_given, part_plan}
use Rattle.board_rules.specs.Turns.{has_blocks, has_jogged, machine_in, begins_in, starts_cycle}
use Rattle.board_rules.specs.Conduct.{Conducted}
use Rattle.board_rules.proofs.Beginning.{fate_now}
use Rattle.board_rules.proofs.Locking.{begins_unless}
use Rattle.board_rules.proofs.Alarms.{calm_plan}
use Rattle.board_rules.proofs.Jogging.{jog_is_last}
use Rattle.board_rules.proofs.Parting.{part_ticks}

-- ---- first ticks of some lines

kept_too : (m n t : ℕ) → m ≤ n → (x : Bool) → (x ≡ true) ⊎ (t ≤ m) → (x ≡ true) ⊎ (t ≤ n)
kept_too m n t within x (inl jog) = inl jog
kept_too m n t within x (inr whole) = inr (omega (arith, within, whole))

-- more ticks leave out less
more_is_kept : (m n : ℕ) (os : List Outcome) → m ≤ n → LosesJogsAlone m os → LosesJogsAlone n os
more_is_kept m n [] within is = tt
more_is_kept m n (o ∷ os) within is =
    (kept_too m n (ticks_asked_for o) within (accepted_jog o.kind) is.0, more_is_kept (m - ticks_asked_for o) (n - ticks_asked_for o) os (omega (arith, within)) is.1)

pub one_and_more : (o : Outcome) (os : List Outcome) → length (ticks_of_all (asked_in (o ∷ os))) ≡ ticks_asked_for o + length (ticks_of_all (asked_in os))
one_and_more o os =
    ap (λ (rs : List Record). length rs) (flat_map-append ticks_of_one (asks o.work) (asked_in os))
    ∙ length-append (ticks_for o) (ticks_of_all (asked_in os))

-- all ticks leave out none
all_are_kept : (m : ℕ) (os : List Outcome) → length (ticks_of_all (asked_in os)) ≤ m → LosesJogsAlone m os
all_are_kept m [] within = tt
all_are_kept m (o ∷ os) within =
    let e = one_and_more o os in
    (inr (omega (arith, e, within)), all_are_kept (m - ticks_asked_for o) os (omega (arith, e, within)))

nothing_lost : (m : ℕ) (o : Outcome) → (accepted_jog o.kind ≡ true) ⊎ (asks o.work ≡ []) → (accepted_jog o.kind ≡ true) ⊎ (ticks_asked_for o ≤ m)
nothing_lost m o (inl jog) = inl jog
nothing_lost m o (inr none) = inr (let e : ticks_asked_for o ≡ 0 = ap (λ (xs : List Asked). length (ticks_of_all xs)) none in omega (arith, e))

-- a jog more, or a line that asks for nothing, leaves out no others
one_more : (m : ℕ) (os : List Outcome) (o : Outcome) → (accepted_jog o.kind ≡ true) ⊎ (asks o.work ≡ []) → LosesJogsAlone m os → LosesJogsAlone m (os ++ o ∷ [])
one_more m [] o may is = (nothing_lost m o may, tt)
one_more m (p ∷ os) o may is = (is.0, one_more (m - ticks_asked_for p) os o may is.1)

-- ---- what was given since the last cut

abbrev given_ticks : Journal → ℕ
given_ticks h = ticks_together (part_given h)

abbrev Loses : Journal → Type 0
Loses h = LosesJogsAlone (given_ticks h) (part_outcomes h)

all_given : (first : Opening) (h : Journal) → Conducted first h → left_of first h ≡ [] → (part_plan h).blocks ≡ [] → Loses h
all_given first h c free empty =
    let given = flat_map ticks_of (part_given h) in
    let e : ticks_of_all (asked_in (part_outcomes h)) ≡ given =
    part_ticks first h c
    ∙ ap (λ (ts : List Task). given ++ (ticks_left (part_plan h) ++ ticks_of_all (asks ts))) free
    ∙ ap (λ (bs : List Block). given ++ (flat_map ticks_left_in bs ++ [])) empty
    ∙ append-nil given in
    let n : length (ticks_of_all (asked_in (part_outcomes h))) ≡ given_ticks h = ap (λ (rs : List Record). length rs) e in
    all_are_kept (given_ticks h) (part_outcomes h) (omega (arith, n))

no_blocks : (bs : List Block) → (has_blocks bs ≡ true → ⊥) → bs ≡ []
no_blocks [] none = refl
no_blocks (b ∷ bs) none = absurd (none refl)

-- queued blocks start before a line that begins with `$`
starts_then : (cycle whole dollar : Bool) → whole ≡ true → dollar ≡ true → (cycle || (whole && dollar)) ≡ false → ⊥
starts_then true whole dollar w d none = absurd cc
starts_then false true true w d none = absurd cc
starts_then false true false w d none = absurd cc
starts_then false false dollar w d none = absurd cc

none_queued : (first : Opening) (h : Journal) (o : Outcome) → Conducted first (began o ∷ h) → motion_of first h ≡ motions.Idle → begins_with_dollar (open_of h) ≡ true → (plan_of h).blocks ≡ []
none_queued first h o c idle dollar =
    no_blocks (plan_of h).blocks (λ some. starts_then (starts_cycle first h) (whole_of h) (begins_with_dollar (open_of h)) c.0.whole dollar (c.0.starts (record { stands = idle; blocks = some })))

-- before an accepted jog, nothing of the lines before is left to run, but of jogs
before_jog : (first : Opening) (h : Journal) (o : Outcome) → Conducted first (began o ∷ h) → (m : Motion) → motion_of first h ≡ m → begins_in m ≡ true → (machine_in m ≡ Runs → ⊥)
    → begins_with_dollar (open_of h) ≡ true → (has_jogged h ≡ true → Loses h) → Loses h
before_jog first h o c motions.Idle is begins other dollar jogs =
    all_given first h c.1 c.0.free (ap (λ (p : Planned). p.blocks) (calm_plan first h c.1 c.0.calm) ∙ none_queued first h o c is dollar)
before_jog first h o c motions.Run is begins other dollar jogs = absurd (other refl)
before_jog first h o c motions.Jog is begins other dollar jogs = jogs (jog_is_last first h c.1 is)
before_jog first h o c _ is begins other dollar jogs = absurd cc

line_begins : (first : Opening) (h : Journal) (o : Outcome) → Conducted first (began o ∷ h) → Fate (machine_in (motion_of first h)) (open_of h) o → jogged_behind o.kind (has_jogged h) ≡ true
    → (has_jogged h ≡ true → Loses h) → LosesJogsAlone (given_ticks h) (part_outcomes h ++ o ∷ [])
line_begins first h o c (fates.coded kind other) is jogs = absurd (let f = sym (ap (λ (k : Kind). jogged_behind k (has_jogged h)) kind) ∙ is in cc)
line_begins first h o c (fates.a_jog kind other dollar still work) is jogs =
    one_more (given_ticks h) (part_outcomes h) o (inl (ap accepted_jog kind)) (before_jog first h o c (motion_of first h) refl (begins_unless first h o c other.1) other.0 dollar jogs)
line_begins first h o c (fates.halted kind other still work) is jogs =
    one_more (given_ticks h) (part_outcomes h) o (inr (ap asks work)) (jogs (sym (ap (λ (k : Kind). jogged_behind k (has_jogged h)) kind) ∙ is))
line_begins first h o c (fates.neither kind still none) is jogs =
    one_more (given_ticks h) (part_outcomes h) o (inr none) (jogs (sym (ap (λ (k : Kind). jogged_behind k (has_jogged h)) kind) ∙ is))

more_given : (h : Journal) (ps : List Piece) → given_ticks h ≤ ticks_together (part_given h ++ ps)
more_given h ps = let e = together_both (part_given h) ps in omega (arith, e)

-- where the last that was accepted of G-code and jogs is a jog, each tick that was not given since the last cut is a jog's
pub jogs_alone : (first : Opening) (h : Journal) → Conducted first h → has_jogged h ≡ true → Loses h
jogs_alone first [] c is = tt
jogs_alone first (began o ∷ h) c is = line_begins first h o c (fate_now first h o c.0) is (jogs_alone first h c.1)
jogs_alone first (did a ps ∷ h) c is = more_is_kept (given_ticks h) (ticks_together (part_given h ++ ps)) (part_outcomes h) (more_given h ps) (jogs_alone first h c.1 is)
jogs_alone first (cut k ∷ h) c is = tt
jogs_alone first (_ ∷ h) c is = jogs_alone first h c.1 is
