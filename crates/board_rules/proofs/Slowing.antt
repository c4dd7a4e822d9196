-- What a board does to its plan is slowed down only by a word, or behind the line that raised an alarm.
use Rattle.std.proofs.Common.{◌≡◌, Bool, true, false, ◌||◌, List, [], ◌∷◌, ◌++◌, sym, refl, ap, ◌∙◌, append_assoc, append-nil, inl}
use Rattle.planner_runs.specs.declared.Action.{Action}
use Rattle.planner_runs.specs.declared.Action.TheVariants.{Override}
use Rattle.planner_runs.specs.Runs.{NeedsNoOther, DisturbedOnlyBy, normal_overrides, all_asked}
use Rattle.planner_runs.proofs.Runs.{disturbed_on, disturbed_more, needs_less}
use Rattle.run_rules.specs.Told.{asked_in}
use Rattle.step_line.specs.Asking.{Asked}
use Rattle.board_journal.specs.Openings.{Opening}
use Rattle.board_journal.specs.Ports.{has_slowed_in, has_changed_in}
use Rattle.board_journal.specs.Steps.{Journal, port_log, has_limited}
use Rattle.board_journal.specs.Steps.Step.{at_port, began, did, evened, cut}
use Rattle.board_rules.specs.Parts.{IsSlowedOnlyBy}
use Rattle.board_rules.specs.Cuts.{part_outcomes, part_actions}
use Rattle.board_rules.specs.Conduct.{Conducted}
use Rattle.board_rules.proofs.Alarms.{none_asked}
use Rattle.board_rules.proofs.Keeping.{disturbed_is, one_disturbs, changed_before, slowed_before, by_word_alone, opposite}
use Rattle.board_rules.proofs.Parting.{asked_is}

-- ---- of any actions

-- they may be slowed down by more
pub slowed_more : (slowed alarmed changed slowed_too changed_too : Bool) (asked : List Asked) (actions : List Action) → (slowed ≡ true → slowed_too ≡ true) → (changed ≡ true → changed_too ≡ true)
    → IsSlowedOnlyBy slowed alarmed changed asked actions → IsSlowedOnlyBy slowed_too alarmed changed_too asked actions
slowed_more slowed alarmed changed slowed_too changed_too asked actions slows changes is = record {
  early = is.early;
  late = is.late;
  both = is.both;
  before = disturbed_more slowed changed slowed_too changed_too is.early slows changes is.before;
  behind = disturbed_more true changed true changed_too is.late (λ e. e) changes is.behind;
  calm = is.calm;
  all = is.all;
}

-- ---- of a board

abbrev Slowed : Journal → Type 0
Slowed h = IsSlowedOnlyBy (has_slowed_in (port_log h)) true (has_changed_in (port_log h)) (asked_in (part_outcomes h)) (part_actions h)

-- one more behind the line
one_behind : (h : Journal) (a : Action) → Slowed h → NeedsNoOther true (has_changed_in (port_log h)) a
    → IsSlowedOnlyBy (has_slowed_in (port_log h)) true (has_changed_in (port_log h)) (asked_in (part_outcomes h)) (part_actions h ++ a ∷ [])
one_behind h a is needs = record {
  early = is.early;
  late = is.late ++ a ∷ [];
  both = ap (λ (xs : List Action). xs ++ a ∷ []) is.both ∙ append_assoc is.early is.late (a ∷ []);
  before = is.before;
  behind = disturbed_on true (has_changed_in (port_log h)) is.late (a ∷ []) is.behind (needs, tt);
  calm = λ e. absurd cc;
  all = is.all;
}

-- before an alarm what was done is slowed down by words alone
by_words : (first : Opening) (h : Journal) → Conducted first h → has_limited h ≡ false → DisturbedOnlyBy (has_slowed_in (port_log h)) (has_changed_in (port_log h)) (part_actions h)
by_words first h c calm =
    disturbed_more (has_slowed_in (port_log h) || has_limited h) (has_changed_in (port_log h)) (has_slowed_in (port_log h)) (has_changed_in (port_log h)) (part_actions h)
    (by_word_alone (has_slowed_in (port_log h)) (has_limited h) calm) (λ e. e) (disturbed_is first h c).0

-- behind one the line that raised it parts what was done
slowed_behind : (first : Opening) (h : Journal) → Conducted first h → has_limited h ≡ true → Slowed h
slowed_behind first [] c one = absurd cc
slowed_behind first (at_port e ∷ h) c one =
    slowed_more (has_slowed_in (port_log h)) true (has_changed_in (port_log h)) (has_slowed_in (port_log (at_port e ∷ h))) (has_changed_in (port_log (at_port e ∷ h))) (asked_in (part_outcomes h)) (part_actions h)
    (slowed_before e (port_log h)) (changed_before e (has_changed_in (port_log h))) (slowed_behind first h c.1 one)
slowed_behind first (began o ∷ h) c one = record {
  early = part_actions h;
  late = [];
  both = sym (append-nil (part_actions h));
  before = by_words first h c.1 c.0.calm;
  behind = tt;
  calm = λ e. absurd cc;
  all = λ e. sym (asked_is first (began o ∷ h) c ∙ ap (λ (a : List Asked). all_asked (part_actions h) ++ a) (none_asked first (began o ∷ h) c one) ∙ append-nil (all_asked (part_actions h)));
}
slowed_behind first (did a ps ∷ h) c one =
    one_behind h a (slowed_behind first h c.1 one)
    (needs_less (has_slowed_in (port_log h) || has_limited h) (has_changed_in (port_log h)) true (has_changed_in (port_log h)) a (λ e. refl) (λ e. e) (one_disturbs first h a c.1 c.0.0))
slowed_behind first (evened ∷ h) c one = one_behind h (Override normal_overrides) (slowed_behind first h c.1 one) (inl refl)
slowed_behind first (cut k ∷ h) c one = opposite (has_limited h) c.0.calm one
slowed_behind first (_ ∷ h) c one = slowed_behind first h c.1 one

pub slowed_is : (first : Opening) (h : Journal) → Conducted first h
    → IsSlowedOnlyBy (has_slowed_in (port_log h)) (has_limited h) (has_changed_in (port_log h)) (asked_in (part_outcomes h)) (part_actions h)
slowed_is first h c = by_alarm (has_limited h) refl
  where
    by_alarm : (t : Bool) → has_limited h ≡ t → IsSlowedOnlyBy (has_slowed_in (port_log h)) t (has_changed_in (port_log h)) (asked_in (part_outcomes h)) (part_actions h)
    by_alarm true one = slowed_behind first h c one
    by_alarm false calm = record {
      early = part_actions h;
      late = [];
      both = sym (append-nil (part_actions h));
      before = by_words first h c calm;
      behind = tt;
      calm = λ e. refl;
      all = λ e. absurd cc;
    }
