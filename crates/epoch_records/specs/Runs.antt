-- The parts of a run's texts, and the pieces that planner runs gave for them, epoch by epoch.
use Rattle.std.specs.Prelude.{◌≡◌, ℕ, ◌+◌, ◌≤◌, false, List, [], ◌∷◌, ◌++◌}
use Rattle.std.specs.List.{list_any, AllByRecursion}
use Rattle.flight.specs.Places.{machine_from, end_from}
use Rattle.plan_rules.specs.Plans.{Planned}
use Rattle.planner_runs.specs.Runs.{Plans, IsStart, NeverClears, all_asked}
use Rattle.planner_runs.specs.declared.Action.{Action}
use Rattle.run_rules.specs.Cuts.{LosesJogsAlone}
use Rattle.run_rules.specs.Outcomes.{either}
use Rattle.run_rules.specs.Reports.{raises_alarm}
use Rattle.run_rules.specs.Told.{asked_in}
use Rattle.run_rules.specs.Work.{Outcome}
use Rattle.run_texts.specs.Fronts.{BeginsWith}
use Rattle.run_texts.specs.Parts.{Ending, Part, is_ending, lines_counted}
use Rattle.run_texts.specs.Parts.Ending.{by_cut, by_reset, by_end}
use Rattle.run_texts.specs.Recorded.{ticks_for_all, settled_ticks}
use Rattle.step_line.specs.Finishing.{ticks_together}
use Rattle.step_line.specs.declared.Mark.TheVariants as marks
use Rattle.step_line.specs.declared.Piece.{Piece}
use Rattle.step_line.specs.declared.Piece.TheVariants as pieces
use Rattle.units.specs.declared.Steps3.{Steps3}
use Rattle.epoch_records.specs.Epochs.{Epoch}

-- ---- one part

-- lines ask for no mark that would end a part
abbrev pub AskForNoEnding : List Outcome → Type 0
AskForNoEnding lines = AllByRecursion (λ r. is_ending r ≡ false) (ticks_for_all lines)

-- A planner run that nothing was taken away from, of the first of what some lines ask for: it gave these pieces, and left this plan.
pub record IsRunFor (lines : List Outcome) (given : List Piece) (last : Planned) : Type 0 where
  pub most : ℕ
  pub start : Planned
  pub starts : IsStart start
  pub actions : List Action
  pub never : NeverClears actions
  pub run : Plans most start actions given last
  pub asks : BeginsWith (asked_in lines) (all_asked actions)
  pub inside : AskForNoEnding lines

-- A cut has ended a part: the machine has come to a stop, all ticks that were given are made, and what is left is of jogs alone. It
-- stands where they lead.
pub record IsCutOff (place : Steps3) (p : Part) (at : Steps3) (given : List Piece) : Type 0 where
  pub last : Planned
  pub run : IsRunFor (lines_counted p) given last
  pub stops : last.speed ≡ 0
  pub jogs : LosesJogsAlone (ticks_together given) (lines_counted p)
  pub stands : at ≡ end_from place given

-- Behind the pieces that were given for a part nothing was given, or the mark of a cut and more, of which no tick was made.
abbrev pub IsUndone : ℕ → List Piece → List Piece → Type 0
IsUndone done given [] = Unit {0}
IsUndone done given (pieces.Segment s ∷ more) = ⊥
IsUndone done given (pieces.Mark m ∷ more) = done ≤ ticks_together given
IsUndone done given (pieces.End ∷ more) = ⊥

-- A reset has ended a part: so many ticks were made of the pieces that were published, at least those up to the last answered line
-- that settles; a piece that was given may be in hand, and is not published. It stands where the ticks lead.
pub record IsBrokenOff (place : Steps3) (p : Part) (at : Steps3) (published : List Piece) (done : ℕ) : Type 0 where
  pub hand : List Piece
  pub given : List Piece
  pub behind : List Piece
  pub both : published ++ hand ≡ given ++ behind
  pub undone : IsUndone done given behind
  pub last : Planned
  pub run : IsRunFor (lines_counted p) given last
  pub settled : settled_ticks p.lines ≤ done
  pub stands : at ≡ machine_from place published done

-- all that the lines ask for was asked of the plan, and nothing of it is left
pub record IsCarriedOut (lines : List Outcome) (actions : List Action) (last : Planned) : Type 0 where
  pub asks : asked_in lines ≡ all_asked actions
  pub rests : last.blocks ≡ []

-- The end has ended a part: the machine has come to a stop. All is carried out; or a line has raised an alarm, and all ticks up to the
-- last line that settles were given.
pub record IsRunOut (p : Part) (given : List Piece) : Type 0 where
  pub last : Planned
  pub run : IsRunFor (lines_counted p) given last
  pub stops : last.speed ≡ 0
  pub all : either (list_any raises_alarm p.lines) (settled_ticks p.lines ≤ ticks_together given) (IsCarriedOut (lines_counted p) run.actions last)

-- ---- all parts

-- An epoch goes on behind the pieces of a part and the mark of its cut, which all are done.
pub record GoesOnBehind (e : Epoch) (k : ℕ) (given : List Piece) (rest : Epoch) : Type 0 where
  pub pieces : e.pieces ≡ given ++ pieces.Mark (marks.Cut k) ∷ rest.pieces
  pub done : e.done ≡ ticks_together given + 1 + rest.done
  pub closing : rest.closing ≡ e.closing

-- A part that begins at a place has pieces of the first of these epochs, and what comes behind it is said of a place and the epochs that
-- are left: a cut leaves what is left of its epoch, a reset and the end the epochs behind it.
abbrev pub EndsSo : Steps3 → Part → Ending → List Epoch → (Steps3 → List Epoch → Type 0) → Type 0
EndsSo place p ending [] behind = ⊥
EndsSo place p (by_cut k at) (e ∷ es) behind = (given : List Piece) × (rest : Epoch) × GoesOnBehind e k given rest × IsCutOff place p at given × behind at (rest ∷ es)
EndsSo place p (by_reset r) (e ∷ es) behind = (e.closing ≡ pieces.Mark (marks.Reset r.number)) × IsBrokenOff place p r.at e.pieces e.done × behind r.at es
EndsSo place p by_end (e ∷ es) behind = (e.closing ≡ pieces.End) × IsRunOut p e.pieces × behind (end_from place e.pieces) es

-- These parts, of which the first begins at a place, have the pieces of these epochs.
abbrev pub AreRun : List Part → Steps3 → List Epoch → Type 0
AreRun [] place es = es ≡ []
AreRun (p ∷ ps) place es = EndsSo place p p.ending es (λ at rest. AreRun ps at rest)
