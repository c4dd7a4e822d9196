-- What there is to do of a line, in order.
use Rattle.std.specs.Prelude.{ℕ, ◌+◌, Bool, true, false, ◌||◌, nat_eq, List, [], ◌∷◌}
use Rattle.std.specs.List.{flat_map}
use Rattle.step_line.specs.Asking.{Asked}
use Rattle.step_line.specs.Asking.Asked.{a_move}
use Rattle.status_report.specs.declared.Reply.{Reply}
use Rattle.status_report.specs.declared.Message.TheVariants.{ResetToContinue}
use Rattle.status_report.specs.declared.Reply.TheVariants.{Alarm, Message, Bye}
use Rattle.run_rules.specs.declared.State.{State}

pub data Task : Type 0 where
  -- something is asked of the machine: a move, a mark, or that it comes to rest
  ask : Asked → Task
  -- a reply is told
  tell : Reply → Task
  -- the machine comes to rest, and is held until it is resumed
  pause : Task
  -- at rest, each override is set to 100 percent
  normal : Task
  -- the machine comes to rest, and is given the end
  finish : Task
  -- the machine slows down to rest, and all that it has not begun by then is dropped
  halt : Task

-- what was accepted: a line of G-code, a jog, or none of these, as when a line is empty, a command, or refused
pub data Kind : Type 0 where
  of_code : Kind
  of_jog : Kind
  of_none : Kind

-- the number of the alarm that a soft limit raises
abbrev pub soft_limit : ℕ
soft_limit = 2

-- a reply is the alarm of a soft limit, which ends the run: no line is begun after it; no other alarm does
abbrev pub is_limit : Reply → Bool
is_limit (Alarm n) = nat_eq n soft_limit
is_limit _ = false

abbrev pub accepted_code : Kind → Bool
accepted_code of_code = true
accepted_code of_jog = false
accepted_code of_none = false

abbrev pub accepted_jog : Kind → Bool
accepted_jog of_code = false
accepted_jog of_jog = true
accepted_jog of_none = false

-- What becomes of a line: what there is to do; its answer, which is told last; whether it settles, that is, has items,
-- and the last is no move; what was accepted; and the state after it. A line that ends the run has no answer of its
-- own: the alarm is in its place, and what is told of it ends with a message.
pub record Outcome : Type 0 where
  pub work : List Task
  pub answer : Reply
  pub settles : Bool
  pub kind : Kind
  pub next : State

-- a line that ends the run with an alarm: the machine is halted, and then the alarm is told
abbrev pub halting_work : List Task
halting_work = halt ∷ tell (Alarm soft_limit) ∷ tell (Message ResetToContinue) ∷ []

-- after the last line the end is given to the machine, and Bye is told
abbrev pub closing_work : List Task
closing_work = finish ∷ tell Bye ∷ []

-- what a task tells
abbrev pub told_by : Task → List Reply
told_by (tell r) = r ∷ []
told_by _ = []

abbrev pub tells : List Task → List Reply
tells work = flat_map told_by work

-- what a task asks of the machine
abbrev pub asked_by_task : Task → List Asked
asked_by_task (ask a) = a ∷ []
asked_by_task _ = []

abbrev pub asks : List Task → List Asked
asks work = flat_map asked_by_task work

-- tasks that ask for these things, and that tell these replies
abbrev pub asking : List Asked → List Task
asking asked = flat_map (λ a. ask a ∷ []) asked

abbrev pub telling : List Reply → List Task
telling replies = flat_map (λ r. tell r ∷ []) replies

-- how often the machine is held
abbrev pub pauses : List Task → ℕ
pauses [] = 0
pauses (pause ∷ ts) = pauses ts + 1
pauses (_ ∷ ts) = pauses ts

-- whether a move is asked for
abbrev pub asks_move : Task → Bool
asks_move (ask (a_move m)) = true
asks_move _ = false

abbrev pub has_moves : List Task → Bool
has_moves [] = false
has_moves (t ∷ ts) = asks_move t || has_moves ts
