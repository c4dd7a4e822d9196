-- The parts of a journal: what was done since the last cut, and the parts that cuts have ended.
use Rattle.std.specs.Prelude.{ℕ, ◌+◌, Bool, true, false, ◌&&◌, not, cond, List, [], ◌∷◌, ◌++◌}
use Rattle.std.specs.List.{list_any}
use Rattle.feed_hold.specs.declared.Motion.{Motion}
use Rattle.feed_hold.specs.declared.Motion.TheVariants.{Cancelling}
use Rattle.flight.specs.Places.{end_from}
use Rattle.plan_rules.specs.Plans.{Planned}
use Rattle.planner_runs.specs.declared.Action.{Action}
use Rattle.planner_runs.specs.Runs.{fresh_plan, cleared}
use Rattle.run_rules.specs.Work.{Outcome, asks}
use Rattle.run_rules.specs.Cuts.{counts_asked, cut_to}
use Rattle.run_rules.specs.Outcomes.{Passed}
use Rattle.run_rules.specs.Outcomes.Passed.{a_line, a_cut}
use Rattle.step_line.specs.Finishing.{ticks_together}
use Rattle.step_line.specs.Logs.{NewestFirst}
use Rattle.step_line.specs.declared.Piece.{Piece}
use Rattle.board_journal.specs.Openings.{Opening}
use Rattle.board_journal.specs.Steps.{Step, Journal, outcomes_of, actions_of, planned_of, plan_from, plan_of, given_of, left_of, motion_of}
use Rattle.board_journal.specs.Steps.Step.{began, paused, became, cut, halted}
use Rattle.board_rules.specs.Parts.{Part, counts_in}

-- ---- since the last cut

-- the steps since then, but for a halt: it only drops what is left of the plan
abbrev pub since_cut : Journal → Journal
since_cut [] = []
since_cut (cut k ∷ h) = []
since_cut (halted ∷ h) = since_cut h
since_cut (s ∷ h) = s ∷ since_cut h

-- what became of the lines that were begun
abbrev pub part_outcomes : Journal → List Outcome
part_outcomes h = outcomes_of (since_cut h)

-- what was done to the plan
abbrev pub part_actions : Journal → List Action
part_actions h = actions_of (since_cut h)

-- the pieces that it gave
abbrev pub part_given : Journal → List Piece
part_given h = planned_of (since_cut h)

-- the plan with which this began
abbrev pub part_start : Journal → Planned
part_start [] = fresh_plan
part_start (cut k ∷ h) = cleared (plan_of h)
part_start (_ ∷ h) = part_start h

-- the plan after what was done to it; nothing is done to it after a halt
abbrev pub part_plan : Journal → Planned
part_plan h = plan_from (part_start h) (since_cut h)

-- the machine was halted
abbrev pub is_halt : Step → Bool
is_halt halted = true
is_halt _ = false

abbrev pub has_halted : Journal → Bool
has_halted h = list_any is_halt h

-- ---- the cuts

-- the part that a cut of this number ends
abbrev pub part_of : Opening → ℕ → Journal → Part
part_of first k h = record {
  number = k;
  outcomes = part_outcomes h;
  start = part_start h;
  actions = part_actions h;
  given = part_given h;
  plan = plan_of h;
  dropped = asks (left_of first h);
}

-- the parts that cuts have ended, the latest first
abbrev pub parts_of : Opening → Journal → NewestFirst Part
parts_of first [] = []
parts_of first (cut k ∷ h) = part_of first k h ∷ parts_of first h
parts_of first (_ ∷ h) = parts_of first h

-- the lines that were begun, and the cuts, in order
abbrev pub passed_of : Opening → Journal → List Passed
passed_of first [] = []
passed_of first (began o ∷ h) = passed_of first h ++ a_line o ∷ []
passed_of first (cut k ∷ h) = passed_of first h ++ a_cut k (end_from first.place (given_of h)) ∷ []
passed_of first (_ ∷ h) = passed_of first h

-- how many ticks count of each line of the open part: after a halt those that were given, the first ones
abbrev pub part_counts : Journal → List ℕ
part_counts h = cond (has_halted h) (cut_to (ticks_together (part_given h)) (counts_asked (part_outcomes h))) (counts_asked (part_outcomes h))

-- how many ticks count of each line that was begun
abbrev pub counts_of : Opening → Journal → List ℕ
counts_of first h = counts_in (parts_of first h) ++ part_counts h

-- ---- one cut for each cancel

abbrev pub is_cancelling : Motion → Bool
is_cancelling Cancelling = true
is_cancelling _ = false

-- jogs are cancelled, and were cut since
abbrev pub has_cut : Journal → Bool
has_cut [] = false
has_cut (paused ∷ h) = false
has_cut (became call m ∷ h) = is_cancelling m && has_cut h
has_cut (cut k ∷ h) = true
has_cut (_ ∷ h) = has_cut h

-- a cancel begins
abbrev pub begins_cancel : (was now : Motion) → Bool
begins_cancel was now = is_cancelling now && not (is_cancelling was)

-- how many cancels there were
abbrev pub cancels_of : Opening → Journal → ℕ
cancels_of first [] = 0
cancels_of first (became call m ∷ h) = cond (begins_cancel (motion_of first h) m) (cancels_of first h + 1) (cancels_of first h)
cancels_of first (_ ∷ h) = cancels_of first h

-- how many of them have their cut to come: the last one, or none
abbrev pub pending : (cancelled has_cut : Bool) → ℕ
pending cancelled has_cut = cond (cancelled && not has_cut) 1 0
