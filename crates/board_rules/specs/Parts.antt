-- The parts of a run in which jogs were cut: each begins where the one before was cut.
use Rattle.std.specs.Prelude.{◌≡◌, ℕ, ◌+◌, ◌-◌, ◌≤◌, ◌<◌, ◌⊎◌, Bool, true, false, List, [], ◌∷◌, ◌++◌, length, map, take}
use Rattle.std.specs.List.{flat_map, AllByRecursion}
use Rattle.flight.specs.Places.{end_from}
use Rattle.legal_heads.specs.Speeds.{HasLegalHeads}
use Rattle.plan_rules.specs.Plans.{Planned}
use Rattle.units.specs.declared.Steps3.{Steps3}
use Rattle.planner_runs.specs.declared.Action.{Action}
use Rattle.planner_runs.specs.declared.Action.TheVariants.{Mark, Clear}
use Rattle.planner_runs.specs.Halted.{HasHaltedHeads}
use Rattle.planner_runs.specs.Runs.{Plans, IsStart, DisturbedOnlyBy, fresh_plan, cleared, all_asked, moves_added, ticks_left, all_records}
use Rattle.run_rules.specs.Work.{Outcome, asks, accepted_jog}
use Rattle.run_rules.specs.Cuts.{LosesJogsAlone, counts_asked, cut_to, with_cut}
use Rattle.run_rules.specs.Outcomes.{Passed}
use Rattle.run_rules.specs.Outcomes.Passed.{a_line, a_cut}
use Rattle.run_rules.specs.Reports.{settled_to}
use Rattle.run_rules.specs.Told.{asked_in}
use Rattle.step_line.specs.Asking.{Asked, ticks_of_all}
use Rattle.step_line.specs.Finishing.{ticks_together}
use Rattle.step_line.specs.Logs.{NewestFirst}
use Rattle.step_line.specs.Pieces.{ticks_of}
use Rattle.step_line.specs.declared.Mark.TheVariants as marks
use Rattle.step_line.specs.declared.Piece.{Piece}
use Rattle.step_line.specs.declared.Piece.TheVariants as pieces
use Rattle.step_line.specs.declared.Record.TheVariants as kinds

-- A part that a cut has ended: the number of the cut; what became of its lines; the plan with which it began, what was
-- done to that, the pieces that it gave, and the plan that was cleared; and what was left to ask.
pub record Part : Type 0 where
  pub number : ℕ
  pub outcomes : List Outcome
  pub start : Planned
  pub actions : List Action
  pub given : List Piece
  pub plan : Planned
  pub dropped : List Asked

-- what is dropped of what lines ask for is nothing, or all of the last line, which is a jog
abbrev pub DropsLast : List Asked → List Outcome → Type 0
DropsLast dropped outcomes = (dropped ≡ []) ⊎ ((early : List Outcome) × (o : Outcome) × (outcomes ≡ early ++ o ∷ []) × (asks o.work ≡ dropped) × (accepted_jog o.kind ≡ true))

-- Such a part, of a plan of at most so many blocks, is a planner run from where the machine stood to where it has come to a stop, so that its heads are legal
-- and a cut may break a move off. What its lines ask for was done, or was left to ask by the last of them, a jog; so the
-- ticks that were given are the first of those that the lines ask for, and the others are of jogs alone.
pub record IsCutPart (blocks : ℕ) (p : Part) : Type 0 where
  pub starts : IsStart p.start
  pub run : Plans blocks p.start p.actions p.given p.plan
  pub stops : p.plan.speed ≡ 0
  pub heads : HasLegalHeads (moves_added p.actions) (all_records p.given ++ kinds.Mark (marks.Cut p.number) ∷ [])
  pub asks : asked_in p.outcomes ≡ all_asked p.actions ++ p.dropped
  pub last : DropsLast p.dropped p.outcomes
  pub ticks : ticks_of_all (asked_in p.outcomes) ≡ flat_map ticks_of p.given ++ (ticks_left p.plan ++ ticks_of_all p.dropped)
  pub jogs : LosesJogsAlone (ticks_together p.given) p.outcomes

-- The last part of a run that an alarm has ended: a planner run, of a plan of at most so many blocks, from where the machine stood to where it has come to a
-- stop. What its lines ask for was done, so the ticks that were given are the first of those that the lines ask for,
-- and the others are dropped; they hold all of the lines up to the last that settles. Its heads are legal up to the
-- end, which may break a move off.
pub record IsAlarmedPart (blocks : ℕ) (outcomes : List Outcome) (start : Planned) (actions : List Action) (given : List Piece) (plan : Planned) : Type 0 where
  pub starts : IsStart start
  pub run : Plans blocks start actions given plan
  pub stops : plan.speed ≡ 0
  pub heads : HasHaltedHeads (moves_added actions) (all_records given ++ kinds.End ∷ [])
  pub asks : asked_in outcomes ≡ all_asked actions
  pub ticks : ticks_of_all (asked_in outcomes) ≡ flat_map ticks_of given ++ ticks_left plan
  pub settled : length (ticks_of_all (asked_in (take (settled_to outcomes) outcomes))) ≤ ticks_together given

-- the plan after these parts: the last one, cleared
abbrev pub plan_behind : NewestFirst Part → Planned
plan_behind [] = fresh_plan
plan_behind (p ∷ ps) = cleared p.plan

-- each begins with the plan that the cut before it has cleared
abbrev pub AreJoined : NewestFirst Part → Type 0
AreJoined [] = Unit {0}
AreJoined (p ∷ ps) = (p.start ≡ plan_behind ps) × AreJoined ps

-- nothing else disturbs them than a hold or a cancel, if there was one, and a change of overrides, if there was one
abbrev pub AreDisturbedOnlyBy : Bool → Bool → NewestFirst Part → Type 0
AreDisturbedOnlyBy slowed changed parts = AllByRecursion (λ p. DisturbedOnlyBy slowed changed p.actions) parts

-- all but the last of some lines
abbrev pub but_last : List Outcome → List Outcome
but_last outcomes = take (length outcomes - 1) outcomes

-- What was done since the last cut is disturbed by no more than these before a line has raised an alarm, when all was
-- asked of the plan that the lines ask for; only behind that line do segments slow down with no word for it. If none has
-- raised one, nothing comes behind.
pub record IsSlowedOnlyBy (slowed alarmed changed : Bool) (asked : List Asked) (actions : List Action) : Type 0 where
  pub early : List Action
  pub late : List Action
  pub both : actions ≡ early ++ late
  pub before : DisturbedOnlyBy slowed changed early
  pub behind : DisturbedOnlyBy true changed late
  pub calm : alarmed ≡ false → late ≡ []
  pub all : alarmed ≡ true → all_asked early ≡ asked

-- ---- of all parts, the latest first

-- what became of their lines
abbrev pub lines_in : NewestFirst Part → List Outcome
lines_in [] = []
lines_in (p ∷ ps) = lines_in ps ++ p.outcomes

-- what was done to the plan; a cut clears it, and is marked
abbrev pub actions_in : NewestFirst Part → List Action
actions_in [] = []
actions_in (p ∷ ps) = actions_in ps ++ (p.actions ++ Clear ∷ Mark (marks.Cut p.number) ∷ [])

-- the pieces that were given, each part's before its cut
abbrev pub pieces_in : NewestFirst Part → List Piece
pieces_in [] = []
pieces_in (p ∷ ps) = pieces_in ps ++ (p.given ++ pieces.Mark (marks.Cut p.number) ∷ [])

-- the lines and the cuts that were passed: each cut where the pieces before it lead, from this place on
abbrev pub passed_in : Steps3 → NewestFirst Part → List Passed
passed_in place [] = []
passed_in place (p ∷ ps) = passed_in place ps ++ (map a_line p.outcomes ++ a_cut p.number (end_from place (pieces_in ps ++ p.given)) ∷ [])

-- How many ticks count of each line: of a part's lines those that were given, the first ones, and the cut with the last
-- line.
abbrev pub counts_in : NewestFirst Part → List ℕ
counts_in [] = []
counts_in (p ∷ ps) = counts_in ps ++ with_cut (cut_to (ticks_together p.given) (counts_asked p.outcomes))

-- the number of the last cut, or of the lines before all parts
abbrev pub last_number : ℕ → NewestFirst Part → ℕ
last_number before [] = before
last_number before (p ∷ ps) = p.number

-- If so many lines were begun before all parts, the number of each cut is that of the lines before it, and is greater
-- than those of the cuts before it.
abbrev pub AreNumbered : ℕ → NewestFirst Part → Type 0
AreNumbered before [] = Unit {0}
AreNumbered before (p ∷ ps) = (p.number ≡ before + length (lines_in (p ∷ ps))) × (last_number before ps < p.number) × AreNumbered before ps
