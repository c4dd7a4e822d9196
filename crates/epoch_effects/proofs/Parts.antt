-- The parts of an epoch, up to the last cut that is made, are slowed down by words alone, or by an alarm.
use Rattle.std.proofs.Common.{◌≡◌, ℕ, ◌≤◌, Bool, true, false, cond, List, [], ◌∷◌, ◌++◌, map, reverse, drop, append-nil, refl, sym, ap, ◌∙◌, subst}
use Rattle.planner_runs.specs.declared.Action.{Action}
use Rattle.planner_runs.specs.Runs.{DisturbedOnlyBy, normal_overrides}
use Rattle.step_line.specs.Asking.{Asked}
use Rattle.board_rules.specs.Conduct.{Conducted}
use Rattle.board_rules.specs.Cuts.{part_actions, part_of, parts_of}
use Rattle.board_journal.specs.Openings.{Opening}
use Rattle.board_rules.specs.Parts.{Part as CutPart, IsSlowedOnlyBy, AreDisturbedOnlyBy}
use Rattle.board_journal.specs.Ports.{has_slowed_in, has_changed_in}
use Rattle.board_journal.specs.Steps.{Journal, port_log, has_limited, known_of}
use Rattle.board_journal.specs.Steps.Step.{began, cut}
use Rattle.board_rules.proofs.Keeping.{disturbed_is}
use Rattle.board_rules.proofs.Parting.{asked_is}
use Rattle.board_rules.proofs.Slowing.{slowed_is}
use Rattle.run_law.specs.Changes.{IsAmong, AreChanges, words_in}
use Rattle.epoch_courses.specs.Drives.{Driven, is_pending, last_of, driven_by_cut, driven_since, drives_in}
use Rattle.epoch_courses.proofs.Drives.{pends_there}
use Rattle.epoch_effects.specs.Effects.{actions_in, asked_of_part, AreSlowedOnlyBy}
use Rattle.epoch_effects.proofs.Changes.{with_one_cut, all_drives, actions_both, changes_front, changes_are}

-- ---- parts that cuts have ended

-- with more behind them
cut_then : (slowed alarmed changed : Bool) (qs : List CutPart) (d : Driven) (ds : List Driven) → AreDisturbedOnlyBy slowed changed qs → AreSlowedOnlyBy slowed alarmed changed (d ∷ ds)
    → AreSlowedOnlyBy slowed alarmed changed (map driven_by_cut (reverse qs) ++ d ∷ ds)
cut_then slowed alarmed changed [] d ds is then = then
cut_then slowed alarmed changed (q ∷ qs) d ds is then =
    subst (λ (xs : List Driven). AreSlowedOnlyBy slowed alarmed changed xs) (sym (with_one_cut q qs (d ∷ ds))) (cut_then slowed alarmed changed qs (driven_by_cut q) (d ∷ ds) is.1 (is.0, then))

-- one that nothing else has disturbed is slowed down by words alone
by_words : (slowed changed : Bool) (asked : List Asked) (actions : List Action) → DisturbedOnlyBy slowed changed actions → IsSlowedOnlyBy slowed false changed asked actions
by_words slowed changed asked actions is = record {
  early = actions;
  late = [];
  both = sym (append-nil actions);
  before = is;
  behind = tt;
  calm = λ e. refl;
  all = λ e. absurd cc;
}

-- ---- those of an epoch

-- the last cut is not made
record Unmade (first : Opening) (h : Journal) (drives : List Driven) : Type 0 where
  q : CutPart
  qs : List CutPart
  parts : parts_of first h ≡ q ∷ qs
  are : drives ≡ map driven_by_cut (reverse qs) ++ driven_by_cut q ∷ []

-- where the board's parts are these
pub unmade_drives : (made : ℕ) (first : Opening) (h : Journal) → is_pending made h ≡ true → (q : CutPart) (qs : List CutPart) → parts_of first h ≡ q ∷ qs → drives_in made first h ≡ map driven_by_cut (reverse qs) ++ driven_by_cut q ∷ []
unmade_drives made first h is q qs parts =
    ap (λ (t : Bool). map driven_by_cut (reverse (drop (cond t 1 0) (parts_of first h))) ++ last_of t (parts_of first h) (driven_since first h) ∷ []) is
    ∙ ap (λ (all : List CutPart). map driven_by_cut (reverse (drop 1 all)) ++ last_of true all (driven_since first h) ∷ []) parts

unmade : (made : ℕ) (first : Opening) (h : Journal) → Conducted first h → known_of h ≤ made → is_pending made h ≡ true → Unmade first h (drives_in made first h)
unmade made first h c known is =
    let p = pends_there made first h c known is in
    let q = part_of first p.k p.before in
    let qs = parts_of first p.before in
    record {
      q = q;
      qs = qs;
      parts = p.parts;
      are = unmade_drives made first h is q qs p.parts;
    }

pub all_made : (made : ℕ) (first : Opening) (h : Journal) → is_pending made h ≡ false → drives_in made first h ≡ all_drives first h
all_made made first h is = ap (λ (t : Bool). map driven_by_cut (reverse (drop (cond t 1 0) (parts_of first h))) ++ last_of t (parts_of first h) (driven_since first h) ∷ []) is

-- ---- overrides

unmade_changes : (first : Opening) (h : Journal) (drives : List Driven) → Unmade first h drives → AreChanges (IsAmong (words_in (port_log h))) normal_overrides (actions_in (all_drives first h))
    → AreChanges (IsAmong (words_in (port_log h))) normal_overrides (actions_in drives)
unmade_changes first h drives u all =
    let May = IsAmong (words_in (port_log h)) in
    let front = map driven_by_cut (reverse (u.q ∷ u.qs)) in
    let same : all_drives first h ≡ front ++ driven_since first h ∷ [] = ap (λ (ps : List CutPart). map driven_by_cut (reverse ps) ++ driven_since first h ∷ []) u.parts in
    let is : drives ≡ front = u.are ∙ sym (with_one_cut u.q u.qs []) ∙ append-nil front in
    subst (λ (ds : List Driven). AreChanges May normal_overrides (actions_in ds)) (sym is)
    (changes_front May normal_overrides (actions_in front) (actions_in (driven_since first h ∷ []))
    (subst (λ (xs : List Action). AreChanges May normal_overrides xs) (ap actions_in same ∙ actions_both front (driven_since first h ∷ [])) all))

pub changes_there : (made : ℕ) (first : Opening) (h : Journal) → Conducted first h → known_of h ≤ made → AreChanges (IsAmong (words_in (port_log h))) normal_overrides (actions_in (drives_in made first h))
changes_there made first h c known = by_pending (is_pending made h) refl
  where
    by_pending : (t : Bool) → is_pending made h ≡ t → AreChanges (IsAmong (words_in (port_log h))) normal_overrides (actions_in (drives_in made first h))
    by_pending true is = unmade_changes first h (drives_in made first h) (unmade made first h c known is) (changes_are first h c)
    by_pending false is = subst (λ (ds : List Driven). AreChanges (IsAmong (words_in (port_log h))) normal_overrides (actions_in ds)) (sym (all_made made first h is)) (changes_are first h c)

-- ---- speed

pending_calm : (made : ℕ) (first : Opening) (h : Journal) → Conducted first h → is_pending made h ≡ true → has_limited h ≡ false
pending_calm made first [] c is = absurd cc
pending_calm made first (began o ∷ h) c is = absurd cc
pending_calm made first (cut k ∷ h) c is = c.0.calm
pending_calm made first (_ ∷ h) c is = pending_calm made first h c.1 is

abbrev SlowedSo : (alarmed : Bool) → Journal → List Driven → Type 0
SlowedSo alarmed h ds = AreSlowedOnlyBy (has_slowed_in (port_log h)) alarmed (has_changed_in (port_log h)) ds

slowed_unmade : (first : Opening) (h : Journal) (ds : List Driven) → Unmade first h ds → AreDisturbedOnlyBy (has_slowed_in (port_log h)) (has_changed_in (port_log h)) (parts_of first h) → SlowedSo false h ds
slowed_unmade first h ds u all =
    let slowed = has_slowed_in (port_log h) in
    let changed = has_changed_in (port_log h) in
    let each : AreDisturbedOnlyBy slowed changed (u.q ∷ u.qs) = subst (λ (ps : List CutPart). AreDisturbedOnlyBy slowed changed ps) u.parts all in
    subst (λ (xs : List Driven). AreSlowedOnlyBy slowed false changed xs) (sym u.are)
    (cut_then slowed false changed u.qs (driven_by_cut u.q) [] each.1 (by_words slowed changed (asked_of_part (driven_by_cut u.q)) u.q.actions each.0))

slowed_all : (first : Opening) (h : Journal) → Conducted first h → AreDisturbedOnlyBy (has_slowed_in (port_log h)) (has_changed_in (port_log h)) (parts_of first h) → SlowedSo (has_limited h) h (all_drives first h)
slowed_all first h c all =
    let slowed = has_slowed_in (port_log h) in
    let changed = has_changed_in (port_log h) in
    cut_then slowed (has_limited h) changed (parts_of first h) (driven_since first h) [] all
    (subst (λ (asked : List Asked). IsSlowedOnlyBy slowed (has_limited h) changed asked (part_actions h)) (asked_is first h c) (slowed_is first h c))

pub slowed_there : (made : ℕ) (first : Opening) (h : Journal) (alarmed : Bool) → Conducted first h → known_of h ≤ made → has_limited h ≡ alarmed → SlowedSo alarmed h (drives_in made first h)
slowed_there made first h alarmed c known same = by_pending (is_pending made h) refl
  where
    by_pending : (t : Bool) → is_pending made h ≡ t → SlowedSo alarmed h (drives_in made first h)
    by_pending true is = subst (λ (t : Bool). SlowedSo t h (drives_in made first h)) (sym (pending_calm made first h c is) ∙ same) (slowed_unmade first h (drives_in made first h) (unmade made first h c known is) (disturbed_is first h c).1)
    by_pending false is =
        subst (λ (ds : List Driven). SlowedSo alarmed h ds) (sym (all_made made first h is)) (subst (λ (t : Bool). SlowedSo t h (all_drives first h)) same (slowed_all first h c (disturbed_is first h c).1))
