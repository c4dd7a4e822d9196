-- Planner runs: what is done to a plan, and the pieces that it gives.
use Rattle.std.specs.Prelude.{◌≡◌, ℕ, ◌<◌, ◌⊎◌, Bool, true, false, List, [], ◌∷◌, ◌++◌, length, map}
use Rattle.std.specs.List.{flat_map, AllByRecursion}
use Rattle.step_line.specs.declared.Mark.TheVariants as marks
use Rattle.step_line.specs.declared.Piece.{Piece}
use Rattle.step_line.specs.declared.Piece.TheVariants as pieces
use Rattle.step_line.specs.declared.Record.{Record}
use Rattle.step_line.specs.declared.Record.TheVariants as kinds
use Rattle.step_line.specs.Records.{IsMark}
use Rattle.step_line.specs.Events.{events_after}
use Rattle.step_line.specs.Pieces.{ComesBehind, records_of}
use Rattle.step_line.specs.Asking.{Asked, moves_of, ticks_of_all}
use Rattle.step_line.specs.Asking.Asked.{a_move, a_mark, a_rest}
use Rattle.line_geom.specs.declared.Cap.TheVariants.{Free}
use Rattle.line_geom.specs.declared.Block.{Block}
use Rattle.overrides.specs.Percents.{IsOverrides}
pub use Rattle.overrides.specs.Percents.{normal_overrides}
use Rattle.plan_rules.specs.Blocks.{left_of}
use Rattle.plan_rules.specs.Plans.{Planned, added}
use Rattle.plan_rules.specs.Segments.{advanced}
use Rattle.plan_rules.specs.Taking.{IsNext}
use Rattle.plan_rules.specs.declared.Mode.TheVariants.{Hold}
use Rattle.step_line.specs.declared.planned_move.PlannedMove.{PlannedMove}
use Rattle.planner_runs.specs.declared.Action.{Action}
use Rattle.planner_runs.specs.declared.Action.TheVariants.{Add, Take, Override, Mark, Rest, Clear, Reset}
use Rattle.legal_heads.specs.Moves.{geometry_of}
use Rattle.step_line.specs.Asking.{IsPlannedMove}

-- an empty plan at rest, with these
abbrev pub fresh_plan : Planned
fresh_plan = record { blocks = []; speed = 0; overrides = normal_overrides }

-- a move as a block that is to be added; its entry cap is set then
abbrev pub block_of : PlannedMove → Block
block_of m = record { line = m.line; mv = m.mv; rate = m.rate; geom = geometry_of m; prepared = 0; entry = Free }

-- a plan after whose blocks a move is added
abbrev pub with_move : Planned → PlannedMove → Planned
with_move p m = added p (block_of m) m.deviation p.overrides

-- all blocks of a plan are taken away, and it is at rest
abbrev pub cleared : Planned → Planned
cleared p = record p { blocks = []; speed = 0 }

-- a piece marks a cut
abbrev pub marks_cut : Piece → Bool
marks_cut (pieces.Mark (marks.Cut k)) = true
marks_cut p = false

-- a controller's plan of the standard size has at most so many blocks
abbrev pub most_blocks : ℕ
most_blocks = 15

-- a move may be added if fewer there are
pub record MayAdd (most : ℕ) (p : Planned) (m : PlannedMove) : Type 0 where
  pub move : IsPlannedMove m
  pub room : length p.blocks < most

-- nothing is left to run
pub record IsAtRest (p : Planned) : Type 0 where
  pub blocks : p.blocks ≡ []
  pub speed : p.speed ≡ 0

-- From a plan of at most so many blocks these actions give these pieces, in order, and leave the plan `last`. A move is
-- added after the others; the plan gives its next segment in a mode, and is advanced by it; it is planned for other
-- overrides; a mark comes when nothing is left to run, and a rest lasts until then; all blocks are taken away when the
-- machine stands, or at any speed by a reset, after which nothing comes.
abbrev pub Plans : ℕ → Planned → List Action → List Piece → Planned → Type 0
Plans most p [] [] last = last ≡ p
Plans most p (Add m ∷ rest) ps last = MayAdd most p m × Plans most (with_move p m) rest ps last
Plans most p (Override o ∷ rest) ps last = IsOverrides o × Plans most (record p { overrides = o }) rest ps last
Plans most p (Rest ∷ rest) ps last = IsAtRest p × Plans most p rest ps last
Plans most p (Clear ∷ rest) ps last = (p.speed ≡ 0) × Plans most (cleared p) rest ps last
Plans most p (Reset ∷ rest) ps last = (rest ≡ []) × (ps ≡ []) × (last ≡ cleared p)
Plans most p (Take mode ∷ rest) (pieces.Segment s ∷ ps) last = IsNext p mode s × Plans most (advanced p s.n s.w_out) rest ps last
Plans most p (Mark m ∷ rest) (pieces.Mark given ∷ ps) last = (given ≡ m) × IsMark m × IsAtRest p × Plans most p rest ps last
Plans most p rest ps last = ⊥

-- a run in two parts, one for each of two lists of actions
pub record RunsInParts (most : ℕ) (p : Planned) (actions more : List Action) (given : List Piece) (last : Planned) : Type 0 where
  pub mid : Planned
  pub early : List Piece
  pub late : List Piece
  pub both : given ≡ early ++ late
  pub before : Plans most p actions early mid
  pub behind : Plans most mid more late last

-- a plan from which a run, or a part of one, may begin: nothing is left to run
pub record IsStart (p : Planned) : Type 0 where
  pub rest : IsAtRest p
  pub overrides : IsOverrides p.overrides

-- a planner run, of a plan of at most so many blocks: from the fresh plan on
abbrev pub IsPlannerRun : ℕ → List Action → List Piece → Planned → Type 0
IsPlannerRun most actions given last = Plans most fresh_plan actions given last

-- what is asked for by what is done to a plan, in order
abbrev pub asked_by : Action → List Asked
asked_by (Add m) = a_move m ∷ []
asked_by (Mark m) = a_mark m ∷ []
asked_by Rest = a_rest ∷ []
asked_by (Take mode) = []
asked_by (Override o) = []
asked_by Clear = []
asked_by Reset = []

abbrev pub all_asked : List Action → List Asked
all_asked actions = flat_map asked_by actions

-- the moves that are added, in order
abbrev pub moves_added : List Action → List PlannedMove
moves_added actions = moves_of (all_asked actions)

-- the ticks that are asked for, in order: all events of each move that is added, and the marks
abbrev pub ticks_asked : List Action → List Record
ticks_asked actions = ticks_of_all (all_asked actions)

-- the events that a plan has left
abbrev pub ticks_left_in : Block → List Record
ticks_left_in b = map kinds.Event (events_after b.mv b.prepared (left_of b))

abbrev pub ticks_left : Planned → List Record
ticks_left p = flat_map ticks_left_in p.blocks

-- what is recorded of the pieces of a run, in order
abbrev pub all_records : List Piece → List Record
all_records given = flat_map records_of given

-- nothing is taken away before it is run
abbrev pub KeepsAll : Action → Type 0
KeepsAll Clear = ⊥
KeepsAll Reset = ⊥
KeepsAll a = Unit {0}

abbrev pub NeverClears : List Action → Type 0
NeverClears actions = AllByRecursion KeepsAll actions

-- more may come after it
abbrev pub IsNoReset : Action → Type 0
IsNoReset Reset = ⊥
IsNoReset a = Unit {0}

abbrev pub NeverResets : List Action → Type 0
NeverResets actions = AllByRecursion IsNoReset actions

-- An action that is done with no operator's word, but that segments may be taken to hold the machine if `held` says so,
-- and that it may be planned for other overrides if `changed` does: if not, each is set to 100 percent. Nothing is taken
-- away.
abbrev pub NeedsNoOther : (held changed : Bool) → Action → Type 0
NeedsNoOther held changed (Take Hold) = held ≡ true
NeedsNoOther held changed (Override o) = (o ≡ normal_overrides) ⊎ (changed ≡ true)
NeedsNoOther held changed Clear = ⊥
NeedsNoOther held changed Reset = ⊥
NeedsNoOther held changed a = Unit {0}

-- Nothing else disturbs these than a hold, if there was one, and a change of overrides, if one was asked for; what sets
-- each to 100 percent needs no asking.
abbrev pub DisturbedOnlyBy : (held changed : Bool) → List Action → Type 0
DisturbedOnlyBy held changed actions = AllByRecursion (NeedsNoOther held changed) actions

-- each piece follows those before it; of these the latest is first
abbrev pub AllFollow : List Piece → List Piece → Type 0
AllFollow before [] = Unit {0}
AllFollow before (p ∷ ps) = ComesBehind before p × AllFollow (p ∷ before) ps
