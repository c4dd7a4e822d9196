-- What the planner was given of a course, part by part.
use Rattle.std.specs.Prelude.{◌≡◌, ℕ, Bool, true, false, not, cond, List, [], ◌∷◌, ◌++◌, map, reverse, drop}
use Rattle.std.specs.List.{flat_map, list_any}
use Rattle.flight.specs.Places.{end_from}
use Rattle.legal_heads.specs.Speeds.{HasLegalHeads}
use Rattle.plan_rules.specs.Plans.{Planned}
use Rattle.planner_runs.specs.declared.Action.{Action}
use Rattle.planner_runs.specs.declared.Action.TheVariants.{Reset as Resets}
use Rattle.planner_runs.specs.Runs.{Plans, IsStart, IsAtRest, NeverClears, fresh_plan, cleared, all_asked, moves_added, ticks_left, all_records}
use Rattle.run_rules.specs.declared.State.{State}
use Rattle.run_rules.specs.Cuts.{LosesJogsAlone}
use Rattle.run_rules.specs.Outcomes.{either}
use Rattle.run_rules.specs.Reports.{raises_alarm}
use Rattle.run_rules.specs.Told.{asked_in}
use Rattle.run_rules.specs.Work.{asks}
use Rattle.run_texts.specs.Fronts.{BeginsWith}
use Rattle.run_texts.specs.Parts.{Ending, Part, lines_counted}
use Rattle.run_texts.specs.Parts.Ending.{by_cut, by_reset, by_end}
use Rattle.run_texts.specs.Places.{begins_behind}
use Rattle.run_texts.specs.Recorded.{ticks_for_all}
use Rattle.step_line.specs.Asking.{Asked, ticks_of_all}
use Rattle.step_line.specs.Finishing.{ticks_together}
use Rattle.step_line.specs.Logs.{NewestFirst}
use Rattle.step_line.specs.Pieces.{ticks_of}
use Rattle.step_line.specs.declared.Mark.TheVariants as marks
use Rattle.step_line.specs.declared.Piece.{Piece}
use Rattle.step_line.specs.declared.Record.TheVariants as kinds
use Rattle.units.specs.declared.Steps3.{Steps3}
use Rattle.board_rules.specs.Cuts.{part_actions, part_given, part_start, part_plan, parts_of}
use Rattle.board_journal.specs.Openings.{Opening}
use Rattle.board_rules.specs.Parts.{Part as CutPart, DropsLast, IsAlarmedPart}
use Rattle.board_journal.specs.Steps.{Journal, left_of}
use Rattle.board_journal.specs.Steps.Step.{began, cut}
use Rattle.board_epochs.specs.Epochs.{Closed, Epochs, opening_behind, ticks_made}
use Rattle.board_epochs.specs.Epochs.Epochs.{goes, resets}
use Rattle.epoch_courses.specs.Course.{is_made, made_at_halt}

-- A part as the planner has run it: the plan with which it began, what was done to that, the pieces that it gave, the plan that was
-- left, and what was left to ask.
pub record Driven : Type 0 where
  pub start : Planned
  pub actions : List Action
  pub given : List Piece
  pub plan : Planned
  pub left : List Asked

-- ---- how a part ends

-- A cut comes where the machine has come to a stop and the pieces have led, and may break a move off: the heads are legal up to it.
-- What was left to ask is nothing, or all of the last line, which is a jog; and the ticks that were not given are of jogs alone.
pub record IsCutOff (k : ℕ) (place at : Steps3) (p : Part) (d : Driven) : Type 0 where
  pub stops : d.plan.speed ≡ 0
  pub heads : HasLegalHeads (moves_added d.actions) (all_records d.given ++ kinds.Mark (marks.Cut k) ∷ [])
  pub stands : at ≡ end_from place d.given
  pub last : DropsLast d.left (lines_counted p)
  pub jogs : LosesJogsAlone (ticks_together d.given) (lines_counted p)

-- A reset takes away what is left, at any speed. Whichever first pieces are out by then, their heads are legal up to its mark.
pub record IsTakenAway (blocks k : ℕ) (d : Driven) : Type 0 where
  pub run : Plans blocks d.start (d.actions ++ Resets ∷ []) d.given (cleared d.plan)
  pub heads : (out : List Piece) → BeginsWith d.given out → HasLegalHeads (moves_added d.actions) (all_records out ++ kinds.Mark (marks.Reset k) ∷ [])

-- all that the lines ask for was asked and run, and the heads are legal up to the end
pub record IsRunOut (p : Part) (d : Driven) : Type 0 where
  pub asked : d.left ≡ []
  pub rests : IsAtRest d.plan
  pub ticks : ticks_for_all (lines_counted p) ≡ flat_map ticks_of d.given
  pub heads : HasLegalHeads (moves_added d.actions) (all_records d.given ++ kinds.End ∷ [])

-- The last part of a run that is closed and done: all of it was run, or a line has raised an alarm, which has stopped the machine.
abbrev pub IsOver : (blocks : ℕ) → Part → Driven → Type 0
IsOver blocks p d = either (list_any raises_alarm p.lines) (IsAlarmedPart blocks p.lines d.start d.actions d.given d.plan) (IsRunOut p d)

-- one that goes on
abbrev pub GoesOn : Driven → Type 0
GoesOn d = HasLegalHeads (moves_added d.actions) (all_records d.given)

abbrev pub EndsBy : (blocks : ℕ) → (over : Bool) → Steps3 → Part → Driven → Ending → Type 0
EndsBy blocks over place p d (by_cut k at) = IsCutOff k place at p d
EndsBy blocks over place p d (by_reset r) = IsTakenAway blocks r.number d
EndsBy blocks over place p d by_end = either over (IsOver blocks p d) (GoesOn d)

-- the plan with which the next part begins
abbrev pub plan_behind : Ending → Driven → Planned
plan_behind (by_cut k at) d = cleared d.plan
plan_behind (by_reset r) d = fresh_plan
plan_behind by_end d = d.plan

-- ---- all parts

-- A part that begins at a place with a plan, of at most so many blocks, is a planner run from where nothing was left to run, and of which nothing was taken away
-- before its end. What its lines ask for was done, or is left to ask; so the ticks of its pieces are the first of those that the lines ask for, and the others are left in the plan, or to ask.
pub record IsDrivenBy (blocks : ℕ) (over : Bool) (place : Steps3) (plan : Planned) (p : Part) (d : Driven) : Type 0 where
  pub joined : d.start ≡ plan
  pub starts : IsStart d.start
  pub run : Plans blocks d.start d.actions d.given d.plan
  pub never : NeverClears d.actions
  pub asks : asked_in (lines_counted p) ≡ all_asked d.actions ++ d.left
  pub ticks : ticks_for_all (lines_counted p) ≡ flat_map ticks_of d.given ++ (ticks_left d.plan ++ ticks_of_all d.left)
  pub ends : EndsBy blocks over place p d p.ending

-- each begins where the one before has ended, with the plan that it has left; `over` says whether the last one is done
abbrev pub AreDriven : (blocks : ℕ) → (over : Bool) → Steps3 → Planned → List Part → List Driven → Type 0
AreDriven blocks over place plan [] [] = Unit {0}
AreDriven blocks over place plan (p ∷ ps) (d ∷ ds) = IsDrivenBy blocks over place plan p d × AreDriven blocks over (begins_behind p.ending place) (plan_behind p.ending d) ps ds
AreDriven blocks over place plan [] (d ∷ ds) = ⊥
AreDriven blocks over place plan (p ∷ ps) [] = ⊥

-- ---- of a board

-- of a part that a cut has ended; and of what was done since the last cut
abbrev pub driven_by_cut : CutPart → Driven
driven_by_cut q = record { start = q.start; actions = q.actions; given = q.given; plan = q.plan; left = q.dropped }

abbrev pub driven_since : Opening → Journal → Driven
driven_since first h = record { start = part_start h; actions = part_actions h; given = part_given h; plan = part_plan h; left = asks (left_of first h) }

-- the last cut is not made, with so many ticks of the epoch made
abbrev pub is_pending : (made : ℕ) → Journal → Bool
is_pending made [] = false
is_pending made (began o ∷ h) = false
is_pending made (cut k ∷ h) = not (is_made made h)
is_pending made (_ ∷ h) = is_pending made h

-- the parts that cuts have ended which are made, the latest first
abbrev pub cut_parts : (made : ℕ) → Opening → Journal → NewestFirst CutPart
cut_parts made first h = drop (cond (is_pending made h) 1 0) (parts_of first h)

-- The last part: what was done since the last cut, or, where that is not made, what was done before it.
abbrev pub last_of : (pending : Bool) → NewestFirst CutPart → Driven → Driven
last_of true (q ∷ qs) d = driven_by_cut q
last_of true [] d = d
last_of false qs d = d

-- the parts of an epoch, in order
abbrev pub drives_in : (made : ℕ) → Opening → Journal → List Driven
drives_in made first h = map driven_by_cut (reverse (cut_parts made first h)) ++ last_of (is_pending made h) (parts_of first h) (driven_since first h) ∷ []

abbrev pub closed_drives : (blocks : ℕ) → State → NewestFirst Closed → List Driven
closed_drives blocks state [] = []
closed_drives blocks state (e ∷ es) = closed_drives blocks state es ++ drives_in (made_at_halt (ticks_made es) e.work) (opening_behind blocks state es) e.journal

abbrev pub drives_of : (blocks : ℕ) → State → (made : ℕ) → Epochs → List Driven
drives_of blocks state made (goes es h) = closed_drives blocks state es ++ drives_in made (opening_behind blocks state es) h
drives_of blocks state made (resets es h w) = closed_drives blocks state es ++ drives_in made (opening_behind blocks state es) h
