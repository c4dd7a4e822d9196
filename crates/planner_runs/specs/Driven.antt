-- What is recorded of a planner run.
use Rattle.std.specs.Prelude.{◌≡◌, ℕ, Bool, List, [], ◌∷◌, ◌++◌}
use Rattle.step_line.specs.declared.Mark.TheVariants.{Cut}
use Rattle.step_line.specs.declared.Piece.{Piece}
use Rattle.step_line.specs.declared.Record.{Record}
use Rattle.step_line.specs.declared.Record.TheVariants as kinds
use Rattle.step_line.specs.Ending.{IsEnded}
use Rattle.step_line.specs.Asking.{Asked, moves_of, ticks_of_all, ticks_among}
use Rattle.plan_rules.specs.Plans.{Planned}
use Rattle.legal_heads.specs.Speeds.{HasLegalHeads}
use Rattle.planner_runs.specs.declared.Action.{Action}
use Rattle.planner_runs.specs.Runs.{Plans, IsStart, IsAtRest, IsPlannerRun, DisturbedOnlyBy, all_asked, all_records, moves_added}

-- What a whole run, of a plan of at most so many blocks, records of what it was asked for: the pieces of a planner run to
-- which these moves, marks and rests are given, in this order; and after them the end, when the machine stands. Nothing else disturbs the run than a hold,
-- if there was one, and a change of overrides, if one was asked for; if none was, they are 100 percent throughout.
-- Neither changes an event or a mark.
pub record IsDriven (most : ℕ) (held changed : Bool) (asked : List Asked) (records : List Record) : Type 0 where
  pub actions : List Action
  pub given : List Piece
  pub last : Planned
  pub run : IsPlannerRun most actions given last
  pub disturbed : DisturbedOnlyBy held changed actions
  pub asks : all_asked actions ≡ asked
  -- nothing is left to run
  pub stops : IsAtRest last
  pub recorded : records ≡ all_records given ++ kinds.End ∷ []
  -- the end is the last record, and the only end
  pub ended : IsEnded records
  -- each event of each move is recorded, and each mark, once and in order
  pub ticks : ticks_among records ≡ ticks_of_all asked
  -- each head comes before its events, which are of one of the moves, and the heads are legal
  pub heads : HasLegalHeads (moves_of asked) records

-- A run that is cleared between some actions and more: it begins anew there, and a cut may come after what was recorded
-- before, so the machine stood.
pub record IsParted (most : ℕ) (from : Planned) (actions more : List Action) (given : List Piece) (last : Planned) : Type 0 where
  pub early : List Piece
  pub late : List Piece
  pub both : given ≡ early ++ late
  pub start : Planned
  pub starts : IsStart start
  pub behind : Plans most start more late last
  pub heads : (line : ℕ) → HasLegalHeads (moves_added actions) (all_records early ++ kinds.Mark (Cut line) ∷ [])
