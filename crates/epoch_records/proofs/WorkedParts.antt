-- Worked parts, and the runs that gave their pieces.
use Rattle.std.proofs.Common.{inl, [], ◌∷◌, refl, arith}
use Rattle.planner_runs.specs.declared.Action.TheVariants.{Mark, Rest}
use Rattle.planner_runs.specs.Runs.{fresh_plan, most_blocks}
use Rattle.planner_runs.proofs.Runs.{fresh_starts}
use Rattle.run_rules.specs.declared.State.{State}
use Rattle.step_line.specs.Asking.Asked.{a_move}
use Rattle.step_line.specs.Events.{line_events}
use Rattle.step_line.specs.declared.Mark.TheVariants as marks
use Rattle.step_line.specs.declared.Piece.TheVariants as pieces
use Rattle.step_line.specs.declared.planned_move.PlannedMove.{PlannedMove}
use Rattle.epoch_records.specs.Rows.{jog_line, dwell_line, ThreePartsAreRun, EarlyAnswer}
use Rattle.epoch_records.specs.Runs.{IsRunFor}
use Rattle.epoch_records.proofs.Asking.{events_inside}

-- nothing of a jog was asked of the plan
jog_run : (s : State) (m : PlannedMove) → IsRunFor (jog_line s m ∷ []) [] fresh_plan
jog_run s m = record {
  most = most_blocks;
  start = fresh_plan;
  starts = fresh_starts;
  actions = [];
  never = tt;
  run = refl;
  asks = record { rest = a_move m ∷ []; is = refl };
  inside = events_inside (line_events m.mv) [] tt;
}

dwell_run : (s : State) (m : PlannedMove) → IsRunFor (dwell_line s ∷ jog_line s m ∷ []) (pieces.Mark (marks.Dwell 0) ∷ []) fresh_plan
dwell_run s m = record {
  most = most_blocks;
  start = fresh_plan;
  starts = fresh_starts;
  actions = Rest ∷ Mark (marks.Dwell 0) ∷ Rest ∷ [];
  never = (tt, (tt, (tt, tt)));
  run = (fresh_starts.rest, (refl, omega arith, fresh_starts.rest, (fresh_starts.rest, refl)));
  asks = record { rest = a_move m ∷ []; is = refl };
  inside = (refl, events_inside (line_events m.mv) [] tt);
}

abbrev nothing_run : IsRunFor [] [] fresh_plan
nothing_run = record { most = most_blocks; start = fresh_plan; starts = fresh_starts; actions = []; never = tt; run = refl; asks = record { rest = []; is = refl }; inside = tt }

pub three_parts_are_run : (s : State) (m : PlannedMove) → ThreePartsAreRun s m
three_parts_are_run s m = (
  [],
  record { pieces = pieces.Mark (marks.Dwell 0) ∷ []; done = 1; closing = pieces.Mark (marks.Reset 3) },
  record { pieces = refl; done = refl; closing = refl },
  record { last = fresh_plan; run = jog_run s m; stops = refl; jogs = (inl refl, tt); stands = refl },
  (
    refl,
    record {
      hand = [];
      given = pieces.Mark (marks.Dwell 0) ∷ [];
      behind = [];
      both = refl;
      undone = tt;
      last = fresh_plan;
      run = dwell_run s m;
      settled = omega arith;
      stands = refl;
    },
    (refl, record { last = fresh_plan; run = nothing_run; stops = refl; all = record { asks = refl; rests = refl } }, refl),
  ),
)

pub no_early_answer : (s : State) (m : PlannedMove) → EarlyAnswer s m → ⊥
no_early_answer s m run =
    let done = run.2.done in
    let few = run.4.1.settled in
    omega (arith, done, few)
