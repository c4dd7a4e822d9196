-- What a board has done, the latest first: at its port, and by itself.
use Rattle.std.specs.Prelude.{ℕ, Bool, false, cond, nat_eq, List, [], ◌∷◌, ◌++◌, drop}
use Rattle.feed_hold.specs.declared.Motion.{Motion}
use Rattle.feed_hold.specs.declared.Motion.TheVariants as motions
use Rattle.feed_hold.specs.Motions.{Call}
use Rattle.outside.specs.declared.Turn.{Turn}
use Rattle.plan_rules.specs.Plans.{Planned}
use Rattle.plan_rules.specs.Segments.{advanced}
use Rattle.planner_runs.specs.declared.Action.{Action}
use Rattle.planner_runs.specs.declared.Action.TheVariants.{Add, Take, Override, Mark, Rest, Clear, Reset}
use Rattle.planner_runs.specs.Runs.{normal_overrides, fresh_plan, with_move, cleared}
use Rattle.flight.specs.Places.{end_from}
use Rattle.run_rules.specs.Work.{Task, Outcome, is_limit, closing_work, telling}
use Rattle.run_rules.specs.Work.Task.{ask, tell, pause, normal, finish, halt}
use Rattle.run_rules.specs.Outcomes.{Before, after, at_place}
use Rattle.status_report.specs.declared.Reply.{Reply}
use Rattle.status_report.specs.declared.Reply.TheVariants.{Bye}
use Rattle.step_line.specs.declared.Mark.TheVariants as marks
use Rattle.step_line.specs.declared.Piece.{Piece}
use Rattle.step_line.specs.declared.Piece.TheVariants as pieces
use Rattle.step_line.specs.Logs.{NewestFirst}
use Rattle.board_journal.specs.Openings.{Opening, before_first}
use Rattle.board_journal.specs.Ports.{PortStep, BoardLog, taken_in, has_closed_in, answered_in, published_in, known_in}
use Rattle.board_journal.specs.Ports.PortStep.{took, answered, published}

-- what a board does, at its port and by itself
pub data Step : Type 0 where
  at_port : PortStep → Step
  -- the line that was taken whole is begun, and this becomes of it
  began : Outcome → Step
  -- something is done to the plan, which gives these pieces
  did : Action → List Piece → Step
  -- the end of the run is made
  made_end : Step
  -- each override is set to 100 percent
  evened : Step
  -- the machine is held for a pause
  paused : Step
  -- something happens to the motion, whose state is this after it
  became : Call → Motion → Step
  -- what is left of jogs that were cancelled is dropped, and this many lines were begun
  cut : ℕ → Step
  -- a machine that a soft limit has stopped is halted: what is left of the plan is dropped
  halted : Step
  -- the run is being closed
  closing : Step
  -- a turn ends with this answer
  turned : Turn → Step

-- all steps, the latest first
abbrev pub Journal : Type 0
Journal = NewestFirst Step

-- the steps at the port alone
abbrev pub port_log : Journal → BoardLog
port_log [] = []
port_log (at_port e ∷ h) = e ∷ port_log h
port_log (_ ∷ h) = port_log h

-- what was done at the port, as `Ports` has it
abbrev pub taken_of : Journal → List ℕ
taken_of h = taken_in (port_log h)

abbrev pub has_closed : Journal → Bool
has_closed h = has_closed_in (port_log h)

abbrev pub answered_of : Journal → List Reply
answered_of h = answered_in (port_log h)

abbrev pub published_of : Journal → List Piece
published_of h = published_in (port_log h)

abbrev pub known_of : Journal → ℕ
known_of h = known_in (port_log h)

-- ---- the lines

abbrev pub open_at : PortStep → List ℕ → List ℕ
open_at (took b) bytes = cond (nat_eq b 10) bytes (bytes ++ b ∷ [])
open_at e bytes = bytes

-- the bytes of the line that is not begun
abbrev pub open_of : Journal → List ℕ
open_of [] = []
open_of (at_port e ∷ h) = open_at e (open_of h)
open_of (began o ∷ h) = []
open_of (_ ∷ h) = open_of h

abbrev pub whole_at : PortStep → Bool → Bool
whole_at (took b) whole = nat_eq b 10
whole_at e whole = whole

-- it was taken whole
abbrev pub whole_of : Journal → Bool
whole_of [] = false
whole_of (at_port e ∷ h) = whole_at e (whole_of h)
whole_of (began o ∷ h) = false
whole_of (_ ∷ h) = whole_of h

-- the lines that were begun
abbrev pub lines_of : Journal → List (List ℕ)
lines_of [] = []
lines_of (began o ∷ h) = lines_of h ++ open_of h ∷ []
lines_of (_ ∷ h) = lines_of h

-- what became of each
abbrev pub outcomes_of : Journal → List Outcome
outcomes_of [] = []
outcomes_of (began o ∷ h) = outcomes_of h ++ o ∷ []
outcomes_of (_ ∷ h) = outcomes_of h

-- one of them has ended the run with the alarm of a soft limit
abbrev pub has_limited : Journal → Bool
has_limited [] = false
has_limited (began o ∷ h) = is_limit o.answer
has_limited (_ ∷ h) = has_limited h

-- ---- what there is to do

abbrev pub left_at : PortStep → List Task → List Task
left_at (answered r) tasks = drop 1 tasks
left_at e tasks = tasks

abbrev pub left_by : Action → List Task → List Task
left_by (Add m) tasks = drop 1 tasks
left_by (Mark m) tasks = drop 1 tasks
left_by Rest tasks = drop 1 tasks
left_by a tasks = tasks

-- tasks, less those that ask something of the machine
abbrev pub without_asks : List Task → List Task
without_asks [] = []
without_asks (ask a ∷ ts) = without_asks ts
without_asks (tell r ∷ ts) = tell r ∷ without_asks ts
without_asks (pause ∷ ts) = pause ∷ without_asks ts
without_asks (normal ∷ ts) = normal ∷ without_asks ts
without_asks (finish ∷ ts) = finish ∷ without_asks ts
without_asks (halt ∷ ts) = halt ∷ without_asks ts

-- What is left to do; at first it is told what the opening says. A cut drops the move of a jog that waits for room.
abbrev pub left_of : Opening → Journal → List Task
left_of first [] = telling first.tells
left_of first (at_port e ∷ h) = left_at e (left_of first h)
left_of first (began o ∷ h) = o.work
left_of first (did a ps ∷ h) = left_by a (left_of first h)
left_of first (became call m ∷ h) = left_of first h
left_of first (cut k ∷ h) = without_asks (left_of first h)
left_of first (closing ∷ h) = closing_work
left_of first (turned t ∷ h) = left_of first h
left_of first (_ ∷ h) = drop 1 (left_of first h)

-- what is told by closing the run
abbrev pub closed_tells : Journal → List Reply
closed_tells [] = []
closed_tells (closing ∷ h) = closed_tells h ++ Bye ∷ []
closed_tells (_ ∷ h) = closed_tells h

-- ---- the machine

-- what was done to the plan
abbrev pub actions_of : Journal → List Action
actions_of [] = []
actions_of (did a ps ∷ h) = actions_of h ++ a ∷ []
actions_of (evened ∷ h) = actions_of h ++ Override normal_overrides ∷ []
actions_of (cut k ∷ h) = actions_of h ++ Clear ∷ Mark (marks.Cut k) ∷ []
actions_of (halted ∷ h) = actions_of h ++ Clear ∷ []
actions_of (_ ∷ h) = actions_of h

-- the pieces that the plan gave
abbrev pub planned_of : Journal → List Piece
planned_of [] = []
planned_of (did a ps ∷ h) = planned_of h ++ ps
planned_of (cut k ∷ h) = planned_of h ++ pieces.Mark (marks.Cut k) ∷ []
planned_of (_ ∷ h) = planned_of h

-- all pieces that were given: those, and the end
abbrev pub given_of : Journal → List Piece
given_of [] = []
given_of (did a ps ∷ h) = given_of h ++ ps
given_of (made_end ∷ h) = given_of h ++ pieces.End ∷ []
given_of (cut k ∷ h) = given_of h ++ pieces.Mark (marks.Cut k) ∷ []
given_of (_ ∷ h) = given_of h

-- What the lines that were begun leave for the next. After a cut the position is the place to which all pieces given
-- lead.
abbrev pub before_of : Opening → Journal → Before
before_of first [] = before_first first
before_of first (began o ∷ h) = after (before_of first h) o
before_of first (cut k ∷ h) = at_place (end_from first.place (given_of h)) (before_of first h)
before_of first (_ ∷ h) = before_of first h

abbrev pub hand_at : PortStep → List Piece → List Piece
hand_at (published p) ps = drop 1 ps
hand_at e ps = ps

-- the pieces that are given and not published yet
abbrev pub hand_of : Journal → List Piece
hand_of [] = []
hand_of (at_port e ∷ h) = hand_at e (hand_of h)
hand_of (did a ps ∷ h) = hand_of h ++ ps
hand_of (made_end ∷ h) = hand_of h ++ pieces.End ∷ []
hand_of (cut k ∷ h) = hand_of h ++ pieces.Mark (marks.Cut k) ∷ []
hand_of (_ ∷ h) = hand_of h

-- the plan after an action that gives these pieces
abbrev pub plan_after : Action → List Piece → Planned → Planned
plan_after (Add m) ps p = with_move p m
plan_after (Override o) ps p = record p { overrides = o }
plan_after (Take mode) (pieces.Segment s ∷ ps) p = advanced p s.n s.w_out
plan_after Clear ps p = cleared p
plan_after Reset ps p = cleared p
plan_after a ps p = p

-- the plan that the actions leave of this one
abbrev pub plan_from : Planned → Journal → Planned
plan_from p [] = p
plan_from p (did a ps ∷ h) = plan_after a ps (plan_from p h)
plan_from p (evened ∷ h) = plan_after (Override normal_overrides) [] (plan_from p h)
plan_from p (cut k ∷ h) = cleared (plan_from p h)
plan_from p (halted ∷ h) = cleared (plan_from p h)
plan_from p (_ ∷ h) = plan_from p h

-- the plan that they leave of the fresh one
abbrev pub plan_of : Journal → Planned
plan_of h = plan_from fresh_plan h

-- the state of the motion
abbrev pub motion_of : Opening → Journal → Motion
motion_of first [] = first.motion
motion_of first (paused ∷ h) = motions.Held
motion_of first (became call m ∷ h) = m
motion_of first (_ ∷ h) = motion_of first h
