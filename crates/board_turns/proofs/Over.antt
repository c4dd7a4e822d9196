-- A board that has closed its run: whether it is over; and a reply that is next.
use Rattle.std.proofs.Common.{ℕ, ◌≡◌, List, [], refl, sym, ◌∙◌}
use Rattle.outside.specs.declared.Turn.TheVariants.{Done}
use Rattle.run_rules.specs.Work.{Task}
use Rattle.run_rules.specs.Work.Task.{tell}
use Rattle.status_report.specs.declared.Reply.{Reply}
use Rattle.line_interpreter.specs.Lefts.{IsNextOf, IsTodo}
use Rattle.line_interpreter.specs.declared.tasks.Todo.{Todo}
use Rattle.line_interpreter.specs.declared.tasks.Todo.TheVariants as todos
use Rattle.board_journal.specs.Openings.{Opening}
use Rattle.board_journal.specs.Steps.{Journal}
use Rattle.board_turns.specs.declared.board.Board.{Board}
use Rattle.board_turns.specs.Boards.{GoingFits, GoingBetween, BoardIsOver}
use Rattle.board_turns.specs.Turning.{BoardWorked}

-- ---- whether the run is over

-- a turn of a run that is over
pub over_worked : {N : ℕ} (first : Opening) (c : Board N) (h : Journal) → GoingFits first c h → GoingBetween h → BoardIsOver c → BoardWorked first Done c.flags c h h
over_worked first c h f between rests = record {
  keeps = f.keeps;
  rounds = f.rounds;
  flags = f.flags;
  still = f.still;
  unpublished = λ o e. absurd cc;
  steps = [];
  are = refl;
  inner = refl;
  may = record { finished = record { left = sym f.keeps.lines.left_is ∙ rests.none; closed = f.keeps.closed rests.closing }; still = between };
  moves = λ e. absurd cc;
}

-- ---- what is next

pub a_reply_next : (t : Todo) (left : List Task) → IsTodo t left → t ≡ todos.Tell → (r : Reply) × IsNextOf (tell r) left
a_reply_next todos.Tell left is e = is
a_reply_next todos.Nothing left is e = absurd cc
a_reply_next todos.Rest left is e = absurd cc
a_reply_next (todos.Mark m) left is e = absurd cc
a_reply_next todos.Move left is e = absurd cc
a_reply_next todos.Pause left is e = absurd cc
a_reply_next todos.Normal left is e = absurd cc
a_reply_next todos.Finish left is e = absurd cc
a_reply_next todos.Halt left is e = absurd cc
