-- How much of what the lines of a part ask for was asked of its plan.
use Rattle.std.specs.Prelude.{List, [], ◌∷◌}
use Rattle.planner_runs.specs.Runs.{all_asked}
use Rattle.run_rules.specs.Told.{asked_in}
use Rattle.run_rules.specs.Work.{Outcome}
use Rattle.run_texts.specs.Fronts.{BeginsWith}
use Rattle.run_texts.specs.Parts.{Part, parts_of, lines_counted}
use Rattle.board_rules.specs.Parts.{but_last}
use Rattle.epoch_courses.specs.Drives.{Driven}
use Rattle.epoch_effects.specs.Effects.{EpochEffects}

-- all that its lines but the last ask for
abbrev pub IsAskedAllBut : List Outcome → Driven → Type 0
IsAskedAllBut lines d = BeginsWith (all_asked d.actions) (asked_in (but_last lines))

-- each of these parts
abbrev pub AreAsked : List Part → List Driven → Type 0
AreAsked [] [] = Unit {0}
AreAsked [] (d ∷ ds) = ⊥
AreAsked (p ∷ ps) [] = ⊥
AreAsked (p ∷ ps) (d ∷ ds) = IsAskedAllBut (lines_counted p) d × AreAsked ps ds

-- those of an epoch
abbrev pub AsksInTurn : EpochEffects → Type 0
AsksInTurn e = AreAsked (parts_of e.passed) e.drives
