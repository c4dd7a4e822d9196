-- What a board that keeps to its rules has taken, when it stands, and what one that is finished leaves.
use Rattle.std.specs.Prelude.{◌≡◌, ◌≢◌, ℕ, ◌<◌, ◌⊎◌, Bool, true, false, ◌||◌, cond, List, [], ◌∷◌, ◌++◌}
use Rattle.std.specs.List.{AllByRecursion, flat_map, list_any}
use Rattle.flight.specs.Places.{end_from}
use Rattle.planner_runs.specs.Runs.{IsAtRest}
use Rattle.run_rules.specs.Lines.{HasNoLf, ended}
use Rattle.run_rules.specs.Outcomes.{Before}
use Rattle.run_rules.specs.Reports.{Course}
use Rattle.run_rules.specs.Work.{Task, Outcome, has_moves}
use Rattle.run_rules.specs.Work.Task.{ask}
use Rattle.step_line.specs.Asking.Asked.{a_move, a_mark, a_rest}
use Rattle.step_line.specs.declared.Piece.TheVariants as pieces
use Rattle.step_line.specs.Pieces.{ticks_of}
use Rattle.board_journal.specs.Openings.{Opening}
use Rattle.board_journal.specs.Ports.{has_held_in, has_changed_in}
use Rattle.board_journal.specs.Steps.{Journal, port_log, has_limited, published_of, outcomes_of, known_of, given_of, planned_of, hand_of, plan_of, whole_of, has_closed, left_of, motion_of}
use Rattle.board_rules.specs.Cuts.{counts_of}
use Rattle.board_rules.specs.Turns.{this_turn, loads, has_blocks, is_going, is_limited}
use Rattle.board_rules.specs.Conduct.{IsDrained, ticks_given, ticks_published}

-- bytes that are taken: lines, each ended by LF, and the line that is not begun, with its LF if it was taken whole
pub record AreLines (taken : List ℕ) (lines : List (List ℕ)) (raw : List ℕ) (whole : Bool) : Type 0 where
  pub bytes : taken ≡ ended lines ++ (raw ++ cond whole (10 ∷ []) [])
  pub each : AllByRecursion HasNoLf lines
  pub partial : HasNoLf raw

-- If all is done, nothing is left in the plan or in hand, each line that was taken whole was begun, and the link was
-- found closed, or a line has raised an alarm. The end was given once, after all that the plan gave, and each tick that
-- was given is done.
pub record IsSpent (h : Journal) : Type 0 where
  pub plan : IsAtRest (plan_of h)
  pub hand : hand_of h ≡ []
  pub given : given_of h ≡ planned_of h ++ pieces.End ∷ []
  pub done : known_of h ≡ ticks_given h
  pub whole : whole_of h ≡ false
  pub closed : (has_closed h ≡ true) ⊎ (has_limited h ≡ true)

-- ---- while nothing has moved since the machine stood

-- a move or a mark is asked for
abbrev pub has_work : List Task → Bool
has_work [] = false
has_work (ask (a_move m) ∷ ts) = true
has_work (ask (a_mark m) ∷ ts) = true
has_work (_ ∷ ts) = has_work ts

-- the machine is waited for, and no move or mark is asked for after that
abbrev pub comes_to_rest : List Task → Bool
comes_to_rest [] = false
comes_to_rest (ask a_rest ∷ ts) = cond (has_work ts) (comes_to_rest ts) true
comes_to_rest (_ ∷ ts) = comes_to_rest ts

-- What there is to do of a line brings the machine to rest if the line settles; and if it moves nothing, it does so or
-- gives the machine nothing to do.
pub record WorkRests (o : Outcome) : Type 0 where
  pub settles : o.settles ≡ true → comes_to_rest o.work ≡ true
  pub still : has_moves o.work ≡ false → (comes_to_rest o.work ≡ true) ⊎ (has_work o.work ≡ false)

-- the machine stands, and nothing more is asked of it
pub record HasComeToRest (first : Opening) (h : Journal) : Type 0 where
  pub drained : IsDrained h
  pub work : has_work (left_of first h) ≡ false

-- it stands, or will be waited for
abbrev pub ComesToRest : Opening → Journal → Type 0
ComesToRest first h = (comes_to_rest (left_of first h) ≡ true) ⊎ HasComeToRest first h

-- A line is begun when the machine was found moving: it runs or jogs; the done ticks were loaded in this turn, and they
-- were fewer than those of the published pieces, or an event is left to run: a block is queued, or a piece is in hand.
pub record IsFoundMoving (first : Opening) (h : Journal) : Type 0 where
  pub goes : is_going (motion_of first h) ≡ true
  pub loaded : list_any loads (this_turn h) ≡ true
  pub left : (known_of h < ticks_published h) ⊎ ((has_blocks (plan_of h).blocks ≡ true) ⊎ (hand_of h ≢ []))

-- no byte of a line is taken while a task of the line before is left
abbrev pub OneByOne : List Task → List ℕ → Bool → Type 0
OneByOne left raw whole = (left ≡ []) ⊎ ((raw ≡ []) × (whole ≡ false))

-- lines of G-code or jogs have moved since the last line that settles
abbrev pub has_any_moved : Before → Bool
has_any_moved b = b.moved || b.jog_moved

-- what reports are judged by
abbrev pub course_of : Opening → Journal → Course
course_of first h = record {
  first = first.state;
  place = first.place;
  locked = is_limited first.motion;
  outcomes = outcomes_of h;
  counts = counts_of first h;
  ticks = flat_map ticks_of (published_of h);
  given = ticks_given h;
  held = has_held_in (port_log h);
  changed = has_changed_in (port_log h);
}

-- a load in this turn gave all ticks that are published as done, and no piece that was given leads further
pub record IsKnown (first : Opening) (h : Journal) : Type 0 where
  pub load : list_any loads (this_turn h) ≡ true
  pub known : known_of h ≡ ticks_published h
  pub place : end_from first.place (given_of h) ≡ end_from first.place (published_of h)
